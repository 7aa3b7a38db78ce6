mod LowBirths
