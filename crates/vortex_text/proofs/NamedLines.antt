-- What a text names, in terms of its lines.
use Rattle.std.proofs.Common.{◌≡◌, ◌+◌, ℕ, List, [], ◌∷◌, ◌++◌, Option, None, Some, Result, Ok, Err, length, refl, sym, ap, ◌∙◌, ◌⊎◌, inl, inr, arith}
use Rattle.std.specs.Str.Lines.{lines}
use Rattle.vortex_expr.specs.Trees.Tree.{Tree, Place}
use Rattle.vortex_prune.specs.Part.{PartData}
use Rattle.vortex_text.specs.Lines.{Reading, nothing_read, parts_of, read_line}
use Rattle.vortex_text.specs.Naming.{Query, finish, go_on, named, named_from, IsFirstBad, NamesQuery, Reads, StopsAt}

finish_ok : (n : ℕ) (ps : List PartData) (o : Option (Tree Place)) (x : Query) → finish n ps o ≡ Ok x → (ps ≡ x.0) × (o ≡ Some x.1)
finish_ok n ps None x e = cc
finish_ok n ps (Some predicate) x e = let same : (ps, predicate) ≡ x = cc in (ap (λ p. p.0) same, ap (λ p. Some p.1) same)

finish_err : (n m : ℕ) (ps : List PartData) (o : Option (Tree Place)) → finish n ps o ≡ Err m → (m ≡ n) × (o ≡ None)
finish_err n m ps None e = ((cc), refl)
finish_err n m ps (Some predicate) e = cc

go_on_ok : (n : ℕ) (o : Option Reading) (k : Reading → Result Query ℕ) (x : Query) → go_on n o k ≡ Ok x → (next : Reading) × (o ≡ Some next) × (k next ≡ Ok x)
go_on_ok n None k x e = cc
go_on_ok n (Some next) k x e = (next, refl, e)

go_on_err : (n m : ℕ) (o : Option Reading) (k : Reading → Result Query ℕ) → go_on n o k ≡ Err m → ((o ≡ None) × (m ≡ n)) ⊎ ((next : Reading) × (o ≡ Some next) × (k next ≡ Err m))
go_on_err n m None k e = inl (refl, cc)
go_on_err n m (Some next) k e = inr (next, refl, e)

ok_reads : (n : ℕ) (r : Reading) (ls : List (List ℕ)) (x : Query) → named_from n r ls ≡ Ok x → (s : Reading) × Reads r ls s × (parts_of s ≡ x.0) × (s.predicate ≡ Some x.1)
ok_reads n r [] x e = let f = finish_ok n (parts_of r) r.predicate x e in (r, refl, f.0, f.1)
ok_reads n r (line ∷ more) x e =
    let (next, read, rest) = go_on_ok n (read_line r line) (λ s. named_from (n + 1) s more) x e in
    let (s, reads, parts, predicate) = ok_reads (n + 1) next more x rest in
    (s, (next, read, reads), parts, predicate)

-- lines that are fine, with a predicate
pub reads_ok : (n : ℕ) (r s : Reading) (ls : List (List ℕ)) (predicate : Tree Place) → Reads r ls s → s.predicate ≡ Some predicate → named_from n r ls ≡ Ok (parts_of s, predicate)
reads_ok n r s [] predicate same e = rw same (ap (finish n (parts_of s)) e)
reads_ok n r s (line ∷ more) predicate (next, read, reads) e = ap (λ o. go_on n o (λ t. named_from (n + 1) t more)) read ∙ reads_ok (n + 1) next s more predicate reads e

err_stops : (n m : ℕ) (r : Reading) (ls : List (List ℕ)) → named_from n r ls ≡ Err m
    → (front : List (List ℕ)) × (rest : List (List ℕ)) × (s : Reading) × (ls ≡ front ++ rest) × (m ≡ length front + n) × Reads r front s × StopsAt s rest
err_stops n m r [] e = let f = finish_err n m (parts_of r) r.predicate e in ([], [], r, refl, omega arith, refl, f.1)
err_stops n m r (line ∷ more) e = elim (go_on_err n m (read_line r line) (λ s. named_from (n + 1) s more) e) [
  | inl stop ↦ ([], line ∷ more, r, refl, omega arith, refl, stop.0)
  | inr go ↦ (let (front, rest, s, split, number, reads, stops) = err_stops (n + 1) m go.0 more go.2 in
      (line ∷ front, rest, s, ap (λ l. line ∷ l) split, omega arith, (go.0, go.1, reads), stops))
]

stops_err : (n : ℕ) (r s : Reading) (front rest : List (List ℕ)) → Reads r front s → StopsAt s rest → named_from n r (front ++ rest) ≡ Err (length front + n)
stops_err n r s [] [] same stop = rw (same, stop) (ap Err (omega arith))
stops_err n r s [] (line ∷ more) same stop = rw (same, stop) (ap Err (omega arith))
stops_err n r s (line ∷ front) rest (next, read, reads) stop =
    ap (λ o. go_on n o (λ t. named_from (n + 1) t (front ++ rest))) read ∙ stops_err (n + 1) next s front rest reads stop ∙ ap Err (omega arith)

pub query_named : (text : List ℕ) (parts : List PartData) (predicate : Tree Place) → named text ≡ Ok (parts, predicate) → NamesQuery text parts predicate
query_named text parts predicate e = ok_reads 1 nothing_read (lines text) (parts, predicate) e

pub named_query : (text : List ℕ) (parts : List PartData) (predicate : Tree Place) → NamesQuery text parts predicate → named text ≡ Ok (parts, predicate)
named_query text parts predicate (r, reads, has, is) = reads_ok 1 nothing_read r (lines text) predicate reads is ∙ ap (λ p. Ok (p, predicate)) has

pub bad_named : (text : List ℕ) (n : ℕ) → named text ≡ Err n → IsFirstBad text n
bad_named text n e = err_stops 1 n nothing_read (lines text) e

pub named_bad : (text : List ℕ) (n : ℕ) → IsFirstBad text n → named text ≡ Err n
named_bad text n (front, rest, r, split, number, reads, stop) = ap (named_from 1 nothing_read) split ∙ stops_err 1 nothing_read r front rest reads stop ∙ ap Err (sym number)
