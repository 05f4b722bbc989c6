-- Whatever was called before, a reading keeps the promise. Assumes nothing.
use Rattle.std.proofs.Common.{◌≡◌, ℕ, ◌+◌, ◌≤◌, [], ◌∷◌, ◌++◌, ◌≤ℤ◌, Some, None, Ok, Err, Result, sym, refl, ap, ◌∙◌, subst, arith}
use borrow.Author.Differences.{ints}
use Rattle.systems.specs.Points.{Proper}
use Rattle.systems.specs.Tables.{Table, wide_entries}
use Rattle.enclosures.specs.Methods.{Solvable, Agreed, Enclosed, Narrowing}
use Rattle.enclosures.specs.Verdicts.{Verdict}
use Rattle.partition.specs.Choosing.{Choice, PlaceWhenSome}
use Rattle.outcomes.specs.declared.reading.Reading.{Reading}
use Rattle.outcomes.specs.declared.refusal.SearchRefusal.{SearchRefusal}
use Rattle.outcomes.specs.declared.refusal.SearchRefusal.TheVariants as refusal
use Rattle.outcomes.specs.Promise.{EveryHistoryKept, History, made_by, splits_in, chosen_by, chosen_in, SaysFull, NeverFull, Reached, Reads, Kept}
use Rattle.outcomes.specs.Searching.{Started, State, reading_of, start_of, split_of, run_of, Call, start, split, run, read, Answer, refused, reading, left, ran_to, step}
use Rattle.outcomes.specs.Waiting.{leading}
use Rattle.outcomes.proofs.Keeping.{Held, After, held_bounded, held_low, held_settled}
use Rattle.outcomes.proofs.Runs.{start_not_full, split_full, stop_full, never_full, run_held}
use Rattle.outcomes.proofs.Splits.{split_held}
use Rattle.outcomes.proofs.Starts.{start_held}

-- ---- readings
reading_value : (x y : Reading) (s u : State) → ◌≡◌ {A = Answer × State} (reading x, s) (reading y, u) → x ≡ y
reading_value x y s u e = let a : ◌≡◌ {A = Answer} (reading x) (reading y) = ap (λ (z : Answer × State). z.0) e in cc

not_read : (d : SearchRefusal) (y : Reading) (s u : State) → ◌≡◌ {A = Answer × State} (refused d, s) (reading y, u) → ⊥
not_read d y s u e = let a : ◌≡◌ {A = Answer} (refused d) (reading y) = ap (λ (z : Answer × State). z.0) e in let z : ◌≡◌ {A = ℕ} 0 1 = cc in omega arith

reading_low : (t : Table) (s : Started) → (reading_of t s).low ≡ (leading s.waiting).low
unfolding reading_of
reading_low t s = refl

reading_high : (t : Table) (s : Started) → (reading_of t s).high ≡ s.high
unfolding reading_of
reading_high t s = refl

-- ---- one state after another
abbrev Onward : State → State → Type 0
Onward None s = Unit {0}
Onward (Some e) None = ⊥
Onward (Some e) (Some s) = ((leading e.waiting).low ≤ℤ (leading s.waiting).low) × (s.high ≤ℤ e.high)

onward_same : (s : State) → Onward s s
onward_same None = tt
onward_same (Some s) = (omega (arith, ints), omega (arith, ints))

onward_twice : (a b c : State) → Onward a b → Onward b c → Onward a c
onward_twice None b c x y = tt
onward_twice (Some a) None c x y = absurd x
onward_twice (Some a) (Some b) None x y = absurd y
onward_twice (Some a) (Some b) (Some c) x y = let p = x.0 in let q = y.0 in let i = x.1 in let j = y.1 in (omega (arith, ints), omega (arith, ints))

onward_after : (v : Table → Verdict) (t : Table) (s n : Started) (made : ℕ) → After v t s n made → Onward (Some s) (Some n)
onward_after v t s n made a = (a.low, a.high)

module _ (v : Table → Verdict) (r : Choice) (t : Table) where
  same_reached : (h : History) (a b : State) → Reached v r t h a → Reached v r t h b → a ≡ b
  same_reached [] a b x y = x ∙ sym y
  same_reached ((c, d) ∷ h) a b x y =
      let was = same_reached h x.0 y.0 x.1 y.1 in
      ap (λ (z : Answer × State). z.1) (sym x.2 ∙ ap (step v r t c) was ∙ y.2)

  -- ---- what the calls before say of a state
  record Known (h : History) (s : Started) : Type 0 where
    held : Held v t s
    chosen : chosen_in h ≡ Some (s.component + 1)
    counted : s.splits ≡ splits_in h
    never : wide_entries t ≤ 9 → NeverFull h

  abbrev Fits : History → State → Type 0
  Fits h None = (splits_in h ≡ 0) × (wide_entries t ≤ 9 → NeverFull h)
  Fits h (Some s) = Known h s

  -- the state stays, with one call more that makes no split
  stays : (c : Call) (a : Answer) (h : History) (s : State) → made_by c a ≡ 0 → chosen_by c a (chosen_in h) ≡ chosen_in h → (wide_entries t ≤ 9 → SaysFull a → ⊥) → Fits h s → Fits ((c, a) ∷ h) s
  stays c a h None none same never f = (let x = f.0 in omega arith, λ small. (never small, f.1 small))
  stays c a h (Some s) none same never f = record {
    held = f.held;
    chosen = same ∙ f.chosen;
    counted = let x = f.counted in omega arith;
    never = λ small. (never small, f.never small);
  }

  module _ (proper : Proper t) (solvable : Solvable v) (agreed : Agreed v) (enclosed : Enclosed v) (narrowing : Narrowing v) (places : PlaceWhenSome r) where
    moved : (c : Call) (a : Answer) (h : History) (s n : Started) → Known h s → Held v t n → After v t s n (made_by c a) → chosen_by c a (chosen_in h) ≡ chosen_in h → (wide_entries t ≤ 9 → SaysFull a → ⊥) → Known ((c, a) ∷ h) n
    moved c a h s n known held after same never = record {
      held = held;
      chosen = same ∙ known.chosen ∙ ap (λ (z : ℕ). Some (z + 1)) (sym after.component);
      counted = let x = known.counted in let y = after.splits in omega arith;
      never = λ small. (never small, known.never small);
    }

    at_start : (c : ℕ) (h : History) → Fits h None → (o : Result Started SearchRefusal) → start_of v t c None ≡ o → Fits ((start c, (left t None o).0) ∷ h) (left t None o).1
    at_start c h f (Ok n) e = let x = start_held v t proper solvable enclosed narrowing c n e in record {
      held = x.0;
      chosen = ap (λ (z : ℕ). Some z) (sym x.1);
      counted = let y = x.2 in let z = f.0 in omega arith;
      never = λ small. (λ none. none, f.1 small);
    }
    at_start c h f (Err d) e = stays (start c) (refused d) h None refl refl (λ small full. start_not_full v t c None (e ∙ ap (λ (z : SearchRefusal). Err z) full)) f

    at_start_again : (c : ℕ) (h : History) (s : Started) → Known h s → (o : Result Started SearchRefusal) → o ≡ Err refusal.AlreadyStarted → Fits ((start c, (left t (Some s) o).0) ∷ h) (left t (Some s) o).1
    at_start_again c h s f (Ok n) e = absurd (let z : ◌≡◌ {A = ℕ} 0 1 = cc in omega arith)
    at_start_again c h s f (Err d) e = stays (start c) (refused d) h (Some s) refl refl (λ small full. let z : ◌≡◌ {A = ℕ} 0 1 = cc in omega arith) f

    at_split : (h : History) (s : Started) → Known h s → (o : Result Started SearchRefusal) → split_of v r t s ≡ o → Fits ((split, (left t (Some s) o).0) ∷ h) (left t (Some s) o).1
    at_split h s f (Ok n) e = let x = split_held v t proper solvable agreed enclosed narrowing r places s n f.held e in moved split (reading (reading_of t n)) h s n f x.0 x.1 refl (λ small none. none)
    at_split h s f (Err d) e = stays split (refused d) h (Some s) refl refl
        (λ small full. let x = split_full v r t s (e ∙ ap (λ (z : SearchRefusal). Err z) full) in never_full v t proper enclosed s f.held small x.0 x.1) f

    at_run : (b : ℕ) (h : History) (s : Started) → Known h s → Fits ((run b, (ran_to t (run_of v r t b s)).0) ∷ h) (ran_to t (run_of v r t b s)).1
    at_run b h s f =
        let x = run_held v t proper solvable agreed enclosed narrowing r places b s f.held in
        let n = (run_of v r t b s).1 in
        moved (run b) (ran_to t (run_of v r t b s)).0 h s n f x.0 x.1 refl (λ small full. let y = stop_full t n full in never_full v t proper enclosed n x.0 small y.0 y.1)

    started_again : (c : ℕ) (s : Started) → start_of v t c (Some s) ≡ Err refusal.AlreadyStarted
    unfolding start_of
    started_again c s = refl

    advance : (c : Call) (h : History) (s : State) → Fits h s → Fits ((c, (step v r t c s).0) ∷ h) (step v r t c s).1
    advance (start c) h None f = at_start c h f (start_of v t c None) refl
    advance (start c) h (Some s) f = at_start_again c h s f (start_of v t c (Some s)) (started_again c s)
    advance split h None f = stays split (refused refusal.NotStarted) h None refl refl (λ small full. let z : ◌≡◌ {A = ℕ} 0 1 = cc in omega arith) f
    advance split h (Some s) f = at_split h s f (split_of v r t s) refl
    advance (run b) h None f = stays (run b) (refused refusal.NotStarted) h None refl refl (λ small full. let z : ◌≡◌ {A = ℕ} 0 1 = cc in omega arith) f
    advance (run b) h (Some s) f = at_run b h s f
    advance read h None f = stays read (refused refusal.NotStarted) h None refl refl (λ small full. let z : ◌≡◌ {A = ℕ} 0 1 = cc in omega arith) f
    advance read h (Some s) f = stays read (reading (reading_of t s)) h (Some s) refl refl (λ small none. none) f

    known : (h : History) (s : State) → Reached v r t h s → Fits h s
    known [] s e = subst (Fits []) (sym e) (refl, λ small. tt)
    known ((c, a) ∷ h) s x = subst (λ (z : Answer × State). Fits ((c, z.0) ∷ h) z.1) x.2 (advance c h x.0 (known h x.0 x.1))

    -- ---- figures that never turn back
    onward_left : (s : Started) (o : Result Started SearchRefusal) → ((n : Started) → o ≡ Ok n → After v t s n 1) → Onward (Some s) (left t (Some s) o).1
    onward_left s (Ok n) f = onward_after v t s n 1 (f n refl)
    onward_left s (Err d) f = onward_same (Some s)

    onward_again : (s : Started) (o : Result Started SearchRefusal) → o ≡ Err refusal.AlreadyStarted → Onward (Some s) (left t (Some s) o).1
    onward_again s (Ok n) e = absurd (let z : ◌≡◌ {A = ℕ} 0 1 = cc in omega arith)
    onward_again s (Err d) e = onward_same (Some s)

    onward_step : (c : Call) (h : History) (s : State) → Fits h s → Onward s (step v r t c s).1
    onward_step c h None f = tt
    onward_step (start c) h (Some s) f = onward_again s (start_of v t c (Some s)) (started_again c s)
    onward_step split h (Some s) f = onward_left s (split_of v r t s) (λ n e. (split_held v t proper solvable agreed enclosed narrowing r places s n f.held e).1)
    onward_step (run b) h (Some s) f = onward_after v t s (run_of v r t b s).1 (run_of v r t b s).0 (run_held v t proper solvable agreed enclosed narrowing r places b s f.held).1
    onward_step read h (Some s) f = onward_same (Some s)

    onward : (later earlier : History) (e s : State) → Reached v r t (later ++ earlier) s → Reached v r t earlier e → Onward e s
    onward [] earlier e s x y = subst (Onward e) (same_reached earlier e s y x) (onward_same e)
    onward ((c, a) ∷ later) earlier e s x y =
        onward_twice e x.0 s (onward later earlier e x.0 x.1 y)
        (subst (λ (z : Answer × State). Onward x.0 z.1) x.2 (onward_step c (later ++ earlier) x.0 (known (later ++ earlier) x.0 x.1)))

    -- a reading that was answered before
    before : (h later earlier : History) (s : Started) (y : Reading) → Reached v r t h (Some s) → h ≡ later ++ earlier → Reads v r t earlier y → (y.low ≤ℤ (reading_of t s).low) × ((reading_of t s).high ≤ℤ y.high)
    before h later earlier s y x e q = by_state q.0 q.1 q.2
      where
        now : Reached v r t (later ++ earlier) (Some s)
        now = subst (λ (z : History). Reached v r t z (Some s)) e x

        by_state : (u : State) → Reached v r t earlier u → step v r t read u ≡ (reading y, u) → (y.low ≤ℤ (reading_of t s).low) × ((reading_of t s).high ≤ℤ y.high)
        by_state None b i = absurd (not_read refusal.NotStarted y None None i)
        by_state (Some u) b i =
            let o = onward later earlier (Some u) (Some s) now b in
            let lower : (reading_of t u).low ≤ℤ (reading_of t s).low = let p = o.0 in omega (arith, ints, reading_low t u, reading_low t s) in
            let higher : (reading_of t s).high ≤ℤ (reading_of t u).high = let p = o.1 in omega (arith, ints, reading_high t u, reading_high t s) in
            subst (λ (z : Reading). (z.low ≤ℤ (reading_of t s).low) × ((reading_of t s).high ≤ℤ z.high)) (reading_value (reading_of t u) y (Some u) (Some u) i) (lower, higher)

    kept : (h : History) (s : Started) → Known h s → ((later earlier : History) (y : Reading) → h ≡ later ++ earlier → Reads v r t earlier y → (y.low ≤ℤ (reading_of t s).low) × ((reading_of t s).high ≤ℤ y.high)) → Kept v r t h (reading_of t s)
    unfolding reading_of
    kept h s f turns = record {
      component = s.component;
      chosen = f.chosen;
      low_holds = held_low v t proper enclosed s f.held;
      high_is_met = f.held.met;
      low_never_fell = λ later earlier y e q. (turns later earlier y e q).0;
      high_never_rose = λ later earlier y e q. (turns later earlier y e q).1;
      counted = f.counted;
      bounded = held_bounded v t s f.held;
      never_full = f.never;
      settled_at_a_corner = held_settled v t proper enclosed s f.held;
    }

pub promise : EveryHistoryKept
promise v r t proper solvable agreed enclosed narrowing places s h x =
    kept v r t proper solvable agreed enclosed narrowing places h s (known v r t proper solvable agreed enclosed narrowing places h (Some s) x)
    (λ later earlier y e q. before v r t proper solvable agreed enclosed narrowing places h later earlier s y x e q)
