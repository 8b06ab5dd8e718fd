mod Resolving
