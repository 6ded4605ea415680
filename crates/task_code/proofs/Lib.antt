mod Keeping
