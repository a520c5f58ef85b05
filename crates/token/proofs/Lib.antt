-- What the proof of `look` cites.
mod Words
