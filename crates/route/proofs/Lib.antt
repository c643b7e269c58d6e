-- The law that the program's proof cites.
mod Text
