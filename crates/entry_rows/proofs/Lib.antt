mod Around2
mod Around3
mod AroundSurface
