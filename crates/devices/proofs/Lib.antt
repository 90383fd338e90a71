mod Writes
