mod Calls
