mod Powers
mod Places
