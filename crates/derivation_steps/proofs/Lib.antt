mod Asking
mod Factors
mod InTurn
mod LemmaTurns
mod Turns
