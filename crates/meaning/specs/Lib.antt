-- The definitions, in the order to read them.
pub mod Curve
pub mod Server
pub mod Refusal
pub mod CurveQuestions
pub mod ServerQuestions
pub mod Profile
pub mod Computed
pub mod Route
pub mod Figures
