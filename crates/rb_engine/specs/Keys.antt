-- Keys of names: numbers that are the same where the names are.
use Rattle.std.specs.Prelude.{ℕ, ◌+◌, ◌*◌, ◌^◌, ◌%◌, List}
use Rattle.std.specs.List.{fold}

-- the key of bytes and one more, from the key of the bytes
abbrev pub key_with : ℕ → ℕ → ℕ
key_with key byte = ((key * 2 ^ 8) % 2 ^ 64 + byte) % 2 ^ 64

-- the key of a name: its last eight bytes as the digits of a number
abbrev pub key_of : List ℕ → ℕ
key_of name = fold key_with 0 name
