mod Merges
