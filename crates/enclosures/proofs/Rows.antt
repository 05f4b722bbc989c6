-- Rows of a system among its entries. Assumes nothing.
use Rattle.std.proofs.Common.{◌≡◌, ℕ, ◌+◌, ◌-◌, ◌*◌, ◌<◌, List, map, length, get_or, take, drop, pos, sym, ap, ◌∙◌, arith, length-drop}
use lib.ListN.{length-map}
use Rattle.std.proofs.Math.ListN.{get_or-map}
use Rattle.std.proofs.lemmas.List.{get_or-take, get_or-drop, length-take, take-map, drop-map}
use Rattle.std.proofs.lemmas.List.FromFn.{fill_by_all, length-map-range_with_len, get_or-map-range_with_len}
use Rattle.std.proofs.lemmas.Nat.{mul-le}
use Rattle.std.specs.List.{range_with_len}
use Rattle.algebra.specs.Ends.{from_to}
use Rattle.enclosures.specs.RowSums.{entry_in}
use Rattle.systems.specs.Entries.{ends_of}
use Rattle.systems.specs.Tables.{Table, table_of, ends_at}
use Rattle.systems.specs.declared.entry.Entry.{Entry}
use Rattle.systems.specs.declared.system.System.{System}
use Rattle.systems.proofs.Tabled.{entries_long}

module _ (s : System) (es : List Entry) (i n : ℕ) (same : map ends_of es ≡ (table_of s).entries) (size : n ≡ (table_of s).size) (below : i < (table_of s).size) where
  -- row i, counted from 0, ends among the entries
  pub row_fits : i * (n + 1) + n < length es
  row_fits =
      let long = entries_long s es same in
      let rows = mul-le (i + 1) (n + 1) n (n + 1) (omega (arith, size)) (omega arith) in
      let all : n * (n + 1) ≡ (table_of s).size * ((table_of s).size + 1) = ap (λ k. k * (k + 1)) size in
      omega arith

  -- its matrix entries
  pub row_read : map ends_of (take (i * (n + 1) + n - i * (n + 1)) (drop (i * (n + 1)) es)) ≡ map (entry_in (table_of s) i) (range_with_len 0 (table_of s).size)
  row_read =
      let t = table_of s in
      let p = i * (n + 1) in
      let m = p + n - p in
      let none = from_to (pos 0) (pos 0) in
      let part = take m (drop p es) in
      let fits = row_fits in
      let long : length part ≡ n = length-take m (drop p es) ∙ simp length-drop (omega (arith, fits)) in
      let ends : map ends_of part ≡ take m (drop p t.entries) =
      sym (take-map ends_of m (drop p es)) ∙ ap (take m) (sym (drop-map ends_of p es) ∙ ap (drop p) same) in
      fill_by_all (entry_in t i) (map ends_of part) t.size none (length-map part ends_of ∙ long ∙ size) (λ k inside.
      ap (λ xs. get_or xs k none) ends ∙ get_or-take m (drop p t.entries) k none (omega (arith, size)) ∙ get_or-drop p t.entries k none
      ∙ ap (λ z. ends_at t (i * (z + 1) + k)) size)

module _ (t : Table) (i n : ℕ) (es : List Entry) (read : map ends_of es ≡ map (entry_in t i) (range_with_len 0 n)) where
  pub row_long : length es ≡ n
  row_long = sym (length-map es ends_of) ∙ ap length read ∙ length-map-range_with_len (entry_in t i) 0 n

  pub entry_seen : (j : ℕ) (e : Entry) → j < n → e ≡ get_or es j e → ends_of e ≡ entry_in t i j
  entry_seen j e inside is = ap ends_of is ∙ sym (get_or-map ends_of es j e) ∙ ap (λ xs. get_or xs j (ends_of e)) read ∙ get_or-map-range_with_len (entry_in t i) 0 n j j (ends_of e) inside (omega arith)
