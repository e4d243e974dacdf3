mod Once
mod LowPower
