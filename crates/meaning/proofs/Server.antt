-- The laws of servers: what is cut, the curve behind, backlog, delay, joining, hop by hop.
pub mod Cut
pub mod HopByHop
pub mod Excess
pub mod Behind
pub mod Delay
pub mod PureDelay
pub mod BothKinds
pub mod Sizes
pub mod Joining
