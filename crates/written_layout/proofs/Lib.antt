mod Spelled
mod TableLines
mod LocationLines
mod Texts
