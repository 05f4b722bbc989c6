-- A run as a loop of splits. Assumes nothing.
use Rattle.std.proofs.Common.{◌≡◌, ℕ, zero, suc, ◌+◌, ◌-◌, ◌<◌, ◌≤◌, Some, Ok, Err, sym, ap, ◌∙◌, arith}
use Rattle.systems.specs.Tables.{Table, table_of}
use Rattle.enclosures.specs.Verdicts.{Verdict}
use Rattle.partition.specs.Choosing.{Choice}
use Rattle.outcomes.specs.declared.refusal.SearchRefusal.{SearchRefusal}
use Rattle.outcomes.specs.Searching.{Started, split_of, after, run_of}
use Rattle.searches.specs.declared.search.Progress.{Progress}
use Rattle.searches.specs.declared.search.Search.{Search}
use Rattle.searches.specs.States.{started_from, state_from, state_of, tried, SameParts}
use Rattle.outcomes.proofs.Runs.{run_on, run_ends, run_none}

-- a run's outcome with more splits made before it
abbrev pub ahead : ℕ → ℕ × Started → ℕ × Started
ahead made (more, end) = (made + more, end)

module _ (v : Table → Verdict) (r : Choice) (t : Table) where
  run_refused : (n : ℕ) (s : Started) (e : SearchRefusal) → split_of v r t s ≡ Err e → run_of v r t n s ≡ (0, s)
  run_refused zero s e h = run_none v r t s
  run_refused (suc n) s e h = run_ends v r t n s e h

  -- a run of this budget from s has made this many splits and is now at `now`
  pub record Runs (budget made : ℕ) (s now : Started) : Type 0 where
    pub fits : made ≤ budget
    pub rest : run_of v r t budget s ≡ ahead made (run_of v r t (budget - made) now)

  pub runs_none : (b : ℕ) (s : Started) → Runs b 0 s s
  runs_none b s = record { fits = omega arith; rest = at_start (run_of v r t b s) ∙ ap (λ k. ahead 0 (run_of v r t k s)) (let same : b ≡ b - 0 = omega arith in same) }
    where
      at_start : (x : ℕ × Started) → x ≡ ahead 0 x
      at_start (more, end) = let same : more ≡ 0 + more = omega arith in (λ i. (same i, end))

  pub runs_more : (b made : ℕ) (s now next : Started) → Runs b made s now → made < b → split_of v r t now ≡ Ok next → Runs b (made + 1) s next
  runs_more b made s now next h l e =
      let n = b - (made + 1) in
      let one : b - made ≡ suc n = omega arith in
      record { fits = omega arith; rest = h.rest ∙ ap (λ k. ahead made (run_of v r t k now)) one ∙ ap (ahead made) (run_on v r t n now next e) ∙ moved (run_of v r t n next) }
    where
      moved : (x : ℕ × Started) → ahead made (after x) ≡ ahead (made + 1) x
      moved (more, end) = let same : made + suc more ≡ made + 1 + more = omega arith in (λ i. (same i, end))

  pub runs_refused : (b made : ℕ) (s now : Started) (e : SearchRefusal) → Runs b made s now → split_of v r t now ≡ Err e → (made, now) ≡ run_of v r t b s
  runs_refused b made s now e h q =
      let same : made ≡ made + 0 = omega arith in
      (λ i. (same i, now)) ∙ ap (ahead made) (sym (run_refused (b - made) now e q)) ∙ sym h.rest

  pub runs_all : (b made : ℕ) (s now : Started) → Runs b made s now → b ≤ made → (made, now) ≡ run_of v r t b s
  runs_all b made s now h l =
      let none : b - made ≡ 0 = omega arith in
      let same : made ≡ made + 0 = omega arith in
      (λ i. (same i, now)) ∙ ap (ahead made) (sym (run_none v r t now)) ∙ ap (λ k. ahead made (run_of v r t k now)) (sym none) ∙ sym h.rest

-- ---- a search whose parts are as they were
module _ {M R : Type 0} where
  pub same_again : (a b c : Search M R) → SameParts a b → SameParts b c → SameParts a c
  same_again a b c p q = record { system = q.system ∙ p.system; method = q.method ∙ p.method; rule = q.rule ∙ p.rule }

  -- what one split comes to there, over the parts as they were
  pub tried_there : (meaning : M → Table → Verdict) (answer : R → Choice) (was now : Search M R) (p : Progress) → SameParts was now → now.progress ≡ Some p
      → tried (meaning now.method) (answer now.rule) (table_of now.system) (state_of now) ≡ split_of (meaning was.method) (answer was.rule) (table_of was.system) (started_from p now.waiting)
  tried_there meaning answer was now p same e = (λ i. tried (meaning (same.method i)) (answer (same.rule i)) (table_of (same.system i)) (state_from (e i) now.waiting))
