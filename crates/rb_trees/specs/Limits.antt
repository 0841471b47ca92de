-- How large values may grow.
use Rattle.std.specs.Prelude.{ℕ}

-- the greatest number of bytes of a text
abbrev pub longest_text : ℕ
longest_text = 4096

-- the greatest number of items of a list
abbrev pub longest_list : ℕ
longest_list = 10000

-- the greatest number of objects of a heap
abbrev pub most_objects : ℕ
most_objects = 100000
