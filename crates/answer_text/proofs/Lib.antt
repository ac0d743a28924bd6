mod Escapes
mod Lists
