mod Laters
