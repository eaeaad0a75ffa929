-- The laws: rows that are made pair by pair are a valid list's.
mod ValidLaws
