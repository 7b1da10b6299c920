mod AllHome
mod Idle
