mod AskedCommand
mod GivenValues
mod Memory
mod MetCommand
mod SentPieces
mod ShownMore
mod Tips
