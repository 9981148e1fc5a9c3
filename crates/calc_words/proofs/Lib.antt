mod Asked
mod Calc
mod Entries
mod Examples
mod Found
