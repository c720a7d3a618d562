pub mod Notebooks
