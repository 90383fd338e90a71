mod Explained
