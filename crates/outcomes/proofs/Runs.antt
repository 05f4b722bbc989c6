-- A run keeps what a started search keeps, and when a call answers full. Assumes nothing.
use Rattle.std.proofs.Common.{◌≡◌, ℕ, zero, suc, ◌-◌, ◌≤◌, Bool, true, false, cond, ◌&&◌, leb, [], ◌∷◌, Some, None, Ok, Err, Option, Result, sym, refl, ap, ◌∙◌, subst, arith}
use borrow.Author.Differences.{ints}
use borrow.Author.Tests.{clash}
use Rattle.algebra.specs.Chaining.{and_then}
use Rattle.systems.specs.Points.{Proper}
use Rattle.systems.specs.Tables.{Table, wide_entries, midpoint_of}
use Rattle.enclosures.specs.Methods.{Solvable, Agreed, Enclosed, Narrowing}
use Rattle.enclosures.specs.Verdicts.{Verdict}
use Rattle.partition.specs.declared.marks.End.TheVariants.{Low, High}
use Rattle.partition.specs.declared.marks.Marks.{Marks}
use Rattle.partition.specs.Choosing.{Choice, PlaceWhenSome}
use Rattle.outcomes.specs.declared.record.Entered.{Entered}
use Rattle.outcomes.specs.declared.refusal.SearchRefusal.{SearchRefusal}
use Rattle.outcomes.specs.declared.refusal.SearchRefusal.TheVariants as refusal
use Rattle.outcomes.specs.declared.reading.Stop.TheVariants as stop
use Rattle.outcomes.specs.Searching.{Started, State, box, figures_of, fixing, unfixed, settled, full, entered, start_of, opened_at, place_in, place_by, place_of, split_of, after, run_of, stop_of}
use Rattle.outcomes.specs.Waiting.{leading}
use Rattle.outcomes.proofs.Keeping.{Held, After, held_full, held_under}
use Rattle.outcomes.proofs.Splits.{split_held}

-- ---- answers other than full
abbrev pub NotFull : {A : Type 0} → Result A SearchRefusal → Type 0
NotFull {A} o = ◌≡◌ {A = Result A SearchRefusal} o (Err refusal.Full) → ⊥

accepted_not_full : {A : Type 0} (x : A) → NotFull {A = A} (Ok x)
accepted_not_full x e = let z : ◌≡◌ {A = ℕ} 0 1 = cc in omega arith

then_not_full : {A B : Type 0} (o : Result A SearchRefusal) (f : A → Result B SearchRefusal) → NotFull o → ((x : A) → NotFull (f x)) → NotFull (and_then o f)
then_not_full (Ok x) f h k e = k x e
then_not_full {A} {B} (Err d) f h k e = h (let same : d ≡ refusal.Full = cc in ap {B = Result A SearchRefusal} (λ (z : SearchRefusal). Err z) same)

figures_not_full : (c : ℕ) (o : Verdict) → NotFull (figures_of c o)
figures_not_full c (Ok row) e = accepted_not_full _ e
figures_not_full c (Err f) e = let z : ◌≡◌ {A = ℕ} 0 1 = cc in omega arith

entered_not_full : (v : Table → Verdict) (t : Table) (c : ℕ) (m : Marks) → NotFull (entered v t c m)
unfolding entered
entered_not_full v t c m = then_not_full (figures_of c (v (box t m))) _ (figures_not_full c (v (box t m)))
    (λ e. then_not_full (figures_of c (v (midpoint_of (box t m)))) _ (figures_not_full c (v (midpoint_of (box t m)))) (λ h. accepted_not_full _))

opened_not_full : (v : Table → Verdict) (t : Table) (s : Started) (k : ℕ) → NotFull (opened_at v t s k)
unfolding opened_at
opened_not_full v t s k =
    let m = (leading s.waiting).marks in
    let c = s.component in
    then_not_full (entered v t c (fixing m k Low)) _ (entered_not_full v t c (fixing m k Low))
    (λ a. then_not_full (entered v t c (fixing m k High)) _ (entered_not_full v t c (fixing m k High)) (λ b. accepted_not_full _))

place_not_full : (r : Choice) (u : Table) (o : Verdict) → NotFull (place_by r u o)
place_not_full r u (Ok row) e = by_place (r u row) e
  where
    by_place : (o : Option ℕ) → NotFull (place_in o)
    by_place (Some k) e = accepted_not_full _ e
    by_place None e = let z : ◌≡◌ {A = ℕ} 0 1 = cc in omega arith
place_not_full r u (Err f) e = let z : ◌≡◌ {A = ℕ} 0 1 = cc in omega arith

pub start_not_full : (v : Table → Verdict) (t : Table) (c : ℕ) (s : State) → NotFull (start_of v t c s)
unfolding start_of
start_not_full v t c (Some s) e = let z : ◌≡◌ {A = ℕ} 0 1 = cc in omega arith
start_not_full v t c None e = by_test (leb 1 c && leb c t.size) e
  where
    begun : Entered → Result Started SearchRefusal
    begun w = Ok (record { component = c - 1; high = w.high; splits = 0; waiting = w.waiting ∷ [] })

    by_test : (b : Bool) → NotFull (cond b (and_then (entered v t (c - 1) unfixed) begun) (Err refusal.ComponentOutOfRange))
    by_test true h = then_not_full (entered v t (c - 1) unfixed) begun (entered_not_full v t (c - 1) unfixed) (λ w. accepted_not_full _) h
    by_test false h = let z : ◌≡◌ {A = ℕ} 0 1 = cc in omega arith

-- a split that answers full is full and not settled
pub split_full : (v : Table → Verdict) (r : Choice) (t : Table) (s : Started) → split_of v r t s ≡ Err refusal.Full → (settled t s ≡ false) × (full s ≡ true)
unfolding split_of place_of
split_full v r t s e = by_tests (settled t s) (full s) e
  where
    by_tests : (a b : Bool) → cond a (Err refusal.Settled) (cond b (Err refusal.Full) (and_then (place_of v r t s) (opened_at v t s))) ≡ Err refusal.Full → (a ≡ false) × (b ≡ true)
    by_tests true b h = absurd (let z : ◌≡◌ {A = ℕ} 0 1 = cc in omega arith)
    by_tests false true h = (refl, refl)
    by_tests false false h = absurd (then_not_full (place_of v r t s) (opened_at v t s) (place_not_full r (box t (leading s.waiting).marks) (v (box t (leading s.waiting).marks))) (opened_not_full v t s) h)

pub stop_full : (t : Table) (s : Started) → stop_of t s ≡ stop.Full → (settled t s ≡ false) × (full s ≡ true)
unfolding stop_of
stop_full t s e = by_tests (settled t s) (full s) e
  where
    by_tests : (a b : Bool) → cond a stop.Settled (cond b stop.Full stop.Budget) ≡ stop.Full → (a ≡ false) × (b ≡ true)
    by_tests true b h = absurd (let z : ◌≡◌ {A = ℕ} 0 1 = cc in omega arith)
    by_tests false true h = (refl, refl)
    by_tests false false h = absurd (let z : ◌≡◌ {A = ℕ} 0 1 = cc in omega arith)

-- ---- runs
pub run_on : (v : Table → Verdict) (r : Choice) (t : Table) (b : ℕ) (s next : Started) → split_of v r t s ≡ Ok next → run_of v r t (suc b) s ≡ after (run_of v r t b next)
unfolding run_of
run_on v r t b s next e = rw e refl

pub run_ends : (v : Table → Verdict) (r : Choice) (t : Table) (b : ℕ) (s : Started) (d : SearchRefusal) → split_of v r t s ≡ Err d → run_of v r t (suc b) s ≡ (0, s)
unfolding run_of
run_ends v r t b s d e = rw e refl

pub run_none : (v : Table → Verdict) (r : Choice) (t : Table) (s : Started) → run_of v r t 0 s ≡ (0, s)
unfolding run_of
run_none v r t s = refl

module _ (v : Table → Verdict) (t : Table) where
  pub no_splits : (s : Started) → After v t s s 0
  no_splits s = record { component = refl; low = omega (arith, ints); high = omega (arith, ints); splits = omega arith }

  after_one : (s n e : Started) (made : ℕ) → After v t s n 1 → After v t n e made → After v t s e (suc made)
  after_one s n e made a b = record {
    component = b.component ∙ a.component;
    low = let x = a.low in let y = b.low in omega (arith, ints);
    high = let x = a.high in let y = b.high in omega (arith, ints);
    splits = let x = a.splits in let y = b.splits in omega arith;
  }

  -- with few wide entries a search that is full is settled
  pub never_full : Proper t → Enclosed v → (s : Started) → Held v t s → wide_entries t ≤ 9 → settled t s ≡ false → full s ≡ true → ⊥
  never_full proper enclosed s held small going most = clash (sym going ∙ held_full v t s held small (held_under v t proper enclosed s held).0 most)

  module _ (proper : Proper t) (solvable : Solvable v) (agreed : Agreed v) (enclosed : Enclosed v) (narrowing : Narrowing v) (r : Choice) (places : PlaceWhenSome r) where
    pub run_held : (b : ℕ) (s : Started) → Held v t s → Held v t (run_of v r t b s).1 × After v t s (run_of v r t b s).1 (run_of v r t b s).0
    run_held zero s held = subst (λ (x : ℕ × Started). Held v t x.1 × After v t s x.1 x.0) (sym (run_none v r t s)) (held, no_splits s)
    run_held (suc b) s held = by_split (split_of v r t s) refl (run_held b)
      where
        by_split : (o : Result Started SearchRefusal) → split_of v r t s ≡ o → ((n : Started) → Held v t n → Held v t (run_of v r t b n).1 × After v t n (run_of v r t b n).1 (run_of v r t b n).0)
            → Held v t (run_of v r t (suc b) s).1 × After v t s (run_of v r t (suc b) s).1 (run_of v r t (suc b) s).0
        by_split (Ok n) e rest =
            let x = split_held v t proper solvable agreed enclosed narrowing r places s n held e in
            let y = rest n x.0 in
            subst (λ (x : ℕ × Started). Held v t x.1 × After v t s x.1 x.0) (sym (run_on v r t b s n e))
            (y.0, after_one s n (run_of v r t b n).1 (run_of v r t b n).0 x.1 y.1)
        by_split (Err d) e rest = subst (λ (x : ℕ × Started). Held v t x.1 × After v t s x.1 x.0) (sym (run_ends v r t b s d e)) (held, no_splits s)
