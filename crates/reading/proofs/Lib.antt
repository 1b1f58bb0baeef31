mod Enough
