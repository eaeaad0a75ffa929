-- What a round asks of the rows of a list alone.
mod FirstRound
