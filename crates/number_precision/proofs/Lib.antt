mod LimbsLemmas
mod DigitLists
mod FloatDigits
mod Nearness
mod Far
mod Floats
mod ShortIntegers
