-- What is printed.
use Rattle.std.specs.Prelude.{ℕ, List, [], ◌∷◌, ◌++◌, codes, decimal}
use Rattle.std.specs.List.{flat_map}

-- a part's number, behind a space
abbrev pub part_text : ℕ → List ℕ
part_text part = 32 ∷ decimal part

-- a row, as its part and its place there, behind a space
abbrev pub row_text : ℕ × ℕ → List ℕ
row_text row = 32 ∷ decimal row.0 ++ 58 ∷ decimal row.1

-- what the rows of a part begin with
abbrev pub row_begin : ℕ → List ℕ
row_begin part = 32 ∷ decimal part ++ 58 ∷ []

-- a line behind its first word
abbrev pub line_of : (word said : List ℕ) → List ℕ
line_of word said = word ++ (said ++ 10 ∷ [])

-- the line of the parts that are whole, where there are any
abbrev pub whole_text : List ℕ → List ℕ
whole_text [] = []
whole_text (part ∷ parts) = codes "whole" ++ flat_map part_text (part ∷ parts) ++ 10 ∷ []

-- what is printed of a scan
abbrev pub scan_text : (skipped : List ℕ) → (selected : List (ℕ × ℕ)) → (whole : List ℕ) → List ℕ
scan_text skipped selected whole = codes "skipped" ++ flat_map part_text skipped ++ 10 ∷ codes "rows" ++ flat_map row_text selected ++ 10 ∷ whole_text whole

-- what is printed of a bad line
abbrev pub bad_text : ℕ → List ℕ
bad_text line = codes "line " ++ (decimal line ++ (codes ": bad" ++ 10 ∷ []))
