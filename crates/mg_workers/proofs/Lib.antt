mod Places
mod Weaves
mod Layouts
mod Returning
