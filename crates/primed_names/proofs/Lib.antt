mod Fresh
mod Places
