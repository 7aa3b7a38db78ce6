mod Escapes
mod FaultTexts
mod Floats
