-- Elimination encloses: a vector that solves whole-number rows lying in the working rows lies, component by component, in the row. Assumes nothing.
use Rattle.std.specs.Prelude.{◌≡◌, ℕ, zero, suc, ◌*◌, ◌<◌, false, List, [], ◌∷◌, length, ℤ, pos, negsuc, ◌+ℤ◌, ◌-ℤ◌, ◌*ℤ◌, ◌≤ℤ◌, Ok, unsigned_abs}
use Rattle.std.proofs.Common.{arith, mul-pos, sym, ◌∙◌}
use Rattle.std.proofs.Math.Path.{refl, ap, subst}
use Rattle.std.proofs.Math.IntN.{*ℤ-zero}
use Rattle.std.proofs.lemmas.Int.{ints}
use Rattle.std.specs.List.{AllByRecursion}
use Rattle.algebra.specs.Chaining.{and_then, each, each_with}
use Rattle.algebra.specs.Ends.{Ends}
use Rattle.algebra.specs.Ring.{◌⊕◌, ◌⊖◌, ◌⊗◌, lit, ◌⩵◌}
use Rattle.algebra.specs.Vectors.{dot}
use Rattle.algebra.proofs.Chaining.{ok_value, then_ok, guard_ok}
use Rattle.algebra.proofs.Ring.{linear, solve}
use Rattle.algebra.proofs.Order.{cancel-≤, times_mono, product_zero}
use Rattle.grains.specs.Arithmetic.{product_of, difference_of, quotient_of, contains_zero}
use Rattle.grains.specs.Points.{Lies, sign}
use Rattle.grains.specs.declared.interval.ArithmeticError.TheVariants.{DivisorContainsZero}
use Rattle.grains.proofs.Containment.{product_holds, difference_holds, divisor_apart, quotient_holds}
use Rattle.enclosures.specs.Elimination.{Row, lead, less_multiple, less_products, reduced_of, solved_of, eliminated}

-- each number over the scale lies in its interval; there are as many of them
abbrev pub Lied : ℕ → List ℤ → List Ends → Type 0
Lied t [] [] = Unit {0}
Lied t [] (e ∷ es) = ⊥
Lied t (a ∷ as') [] = ⊥
Lied t (a ∷ as') (e ∷ es) = Lies a t e × Lied t as' es

-- a row of whole numbers over a positive scale that lies in the working row, and that x over s solves
pub record Holds (x : List ℤ) (s : ℕ) (r : Row) : Type 0 where
  pub scale : ℕ
  pub positive : 0 < scale
  pub coefficients : List ℤ
  pub right : ℤ
  pub long : length coefficients ≡ length x
  pub lie : Lied scale coefficients r.coefficients
  pub lies : Lies right scale r.right
  pub solves : dot coefficients x ≡ right *ℤ pos s

-- ---- the sign of a number
sign_size : (a : ℤ) → sign a *ℤ a ≡ pos (unsigned_abs a)
sign_size (pos zero) = refl
sign_size (pos (suc n)) = omega (arith, linear)
sign_size (negsuc n) = omega (arith, linear)

size_positive : (a : ℤ) → ¬ (a ≡ pos 0) → 0 < unsigned_abs a
size_positive (pos zero) h = absurd (h refl)
size_positive (pos (suc n)) h = omega arith
size_positive (negsuc n) h = omega arith

-- ---- one number less a multiple of another
module _ (μ : ℤ) (M t u : ℕ) (m : Ends) (lm : Lies μ M m) where
  multiple_holds : (c a : ℤ) (e f d : Ends) → Lies c t e → Lies a u f → less_multiple m e f ≡ Ok d → Lies (c *ℤ pos (M * u) -ℤ (μ *ℤ a) *ℤ pos t) (t * (M * u)) d
  unfolding less_multiple
  multiple_holds c a e f d lc la ok =
      let s = then_ok (product_of m f) (λ p. difference_of e p) d ok in
      difference_holds c (μ *ℤ a) t (M * u) e s.0 d lc (product_holds μ a M u m f s.0 lm la s.1) s.2

  multiples : List ℤ → List ℤ → List ℤ
  multiples [] bs = []
  multiples (c ∷ cs) [] = []
  multiples (c ∷ cs) (a ∷ bs) = (c *ℤ pos (M * u) -ℤ (μ *ℤ a) *ℤ pos t) ∷ multiples cs bs

  multiples_lie : (cs bs : List ℤ) (es fs ds : List Ends) → Lied t cs es → Lied u bs fs → each_with (less_multiple m) es fs ≡ Ok ds → Lied (t * (M * u)) (multiples cs bs) ds
  unfolding multiples
  multiples_lie [] bs [] fs ds lc lb ok = subst (λ (o : List Ends). Lied (t * (M * u)) [] o) (ok_value ok) tt
  multiples_lie [] bs (e ∷ es) fs ds lc lb ok = absurd lc
  multiples_lie (c ∷ cs) [] [] fs ds lc lb ok = absurd lc
  multiples_lie (c ∷ cs) [] (e ∷ es) [] ds lc lb ok = subst (λ (o : List Ends). Lied (t * (M * u)) [] o) (ok_value ok) tt
  multiples_lie (c ∷ cs) [] (e ∷ es) (f ∷ fs) ds lc lb ok = absurd lb
  multiples_lie (c ∷ cs) (a ∷ bs) [] fs ds lc lb ok = absurd lc
  multiples_lie (c ∷ cs) (a ∷ bs) (e ∷ es) [] ds lc lb ok = absurd lb
  multiples_lie (c ∷ cs) (a ∷ bs) (e ∷ es) (f ∷ fs) ds lc lb ok =
      let p = then_ok (less_multiple m e f) (λ z. and_then (each_with (less_multiple m) es fs) (λ zs. Ok (z ∷ zs))) ds ok in
      let q = then_ok (each_with (less_multiple m) es fs) (λ zs. Ok (p.0 ∷ zs)) ds p.2 in
      subst (λ (o : List Ends). Lied (t * (M * u)) ((c *ℤ pos (M * u) -ℤ (μ *ℤ a) *ℤ pos t) ∷ multiples cs bs) o) (ok_value q.2)
      (multiple_holds c a e f p.0 lc.0 lb.0 p.1, multiples_lie cs bs es fs q.0 lc.1 lb.1 q.1)

  multiples_long : (cs bs : List ℤ) → length cs ≡ length bs → length (multiples cs bs) ≡ length cs
  unfolding multiples
  multiples_long [] bs h = refl
  multiples_long (c ∷ cs) [] h = absurd (let z : ◌≡◌ {A = ℕ} 0 1 = cc in omega arith)
  multiples_long (c ∷ cs) (a ∷ bs) h = ap suc (multiples_long cs bs (let k : length cs ≡ length bs = cc in k))

  multiples_dot : (cs bs ys : List ℤ) → length cs ≡ length bs → dot (multiples cs bs) ys ≡ dot cs ys *ℤ pos (M * u) -ℤ (μ *ℤ dot bs ys) *ℤ pos t
  unfolding multiples dot
  multiples_dot [] [] ys h = solve 3 (λ μ A t. lit (pos 0) ⩵ lit (pos 0) ⊗ A ⊖ (μ ⊗ lit (pos 0)) ⊗ t) refl μ (pos (M * u)) (pos t)
  multiples_dot [] (a ∷ bs) ys h = absurd (let z : ◌≡◌ {A = ℕ} 0 1 = cc in omega arith)
  multiples_dot (c ∷ cs) [] ys h = absurd (let z : ◌≡◌ {A = ℕ} 0 1 = cc in omega arith)
  multiples_dot (c ∷ cs) (a ∷ bs) [] h = solve 3 (λ μ A t. lit (pos 0) ⩵ lit (pos 0) ⊗ A ⊖ (μ ⊗ lit (pos 0)) ⊗ t) refl μ (pos (M * u)) (pos t)
  multiples_dot (c ∷ cs) (a ∷ bs) (y ∷ ys) h =
      let k : length cs ≡ length bs = cc in
      let rest = multiples_dot cs bs ys k in
      let e = solve 8 (λ c a y μ A t d b. (c ⊗ A ⊖ (μ ⊗ a) ⊗ t) ⊗ y ⊕ (d ⊗ A ⊖ (μ ⊗ b) ⊗ t) ⩵ (c ⊗ y ⊕ d) ⊗ A ⊖ (μ ⊗ (a ⊗ y ⊕ b)) ⊗ t) refl c a y μ (pos (M * u)) (pos t) (dot cs ys) (dot bs ys) in
      ap (λ z. (c *ℤ pos (M * u) -ℤ (μ *ℤ a) *ℤ pos t) *ℤ y +ℤ z) rest ∙ e

-- ---- a row is reduced
-- the pivot's number goes: c y A = (μ (a y)) t
cleared : (a c y : ℤ) (t u : ℕ) → (c *ℤ y) *ℤ pos (t * unsigned_abs a * u) ≡ ((sign a *ℤ c *ℤ pos u) *ℤ (a *ℤ y)) *ℤ pos t
cleared a c y t u =
    ap (λ n. (c *ℤ y) *ℤ (pos t *ℤ n *ℤ pos u)) (sym (sign_size a))
    ∙ solve 6 (λ g a c y t u. (c ⊗ y) ⊗ (t ⊗ (g ⊗ a) ⊗ u) ⩵ ((g ⊗ c ⊗ u) ⊗ (a ⊗ y)) ⊗ t) refl (sign a) a c y (pos t) (pos u)

-- two equations with the same unknowns, one less a multiple of the other
combined : (c y D γ s a B β μ A t : ℤ) → c *ℤ y +ℤ D ≡ γ *ℤ s → a *ℤ y +ℤ B ≡ β *ℤ s → (c *ℤ y) *ℤ A ≡ (μ *ℤ (a *ℤ y)) *ℤ t → D *ℤ A -ℤ (μ *ℤ B) *ℤ t ≡ (γ *ℤ A -ℤ (μ *ℤ β) *ℤ t) *ℤ s
combined c y D γ s a B β μ A t p q k =
    let first = ap (λ z. z *ℤ A) p in
    let second = ap (λ z. (μ *ℤ z) *ℤ t) q in
    let e = solve 6 (λ γ A μ β t s. (γ ⊗ A ⊖ (μ ⊗ β) ⊗ t) ⊗ s ⩵ (γ ⊗ s) ⊗ A ⊖ (μ ⊗ (β ⊗ s)) ⊗ t) refl γ A μ β t s in
    let f = solve 3 (λ z D A. (z ⊕ D) ⊗ A ⩵ z ⊗ A ⊕ D ⊗ A) refl (c *ℤ y) D A in
    let g = solve 4 (λ μ z B t. (μ ⊗ (z ⊕ B)) ⊗ t ⩵ (μ ⊗ z) ⊗ t ⊕ (μ ⊗ B) ⊗ t) refl μ (a *ℤ y) B t in
    omega (arith, linear)

reduced_holds : (y : ℤ) (ys : List ℤ) (s : ℕ) (p r r' : Row) → Holds (y ∷ ys) s p → Holds (y ∷ ys) s r → contains_zero (lead p) ≡ false → reduced_of p r ≡ Ok r' → Holds ys s r'
unfolding reduced_of dot
reduced_holds y ys s p r r' P R apart ok = at_lists P.coefficients p.coefficients R.coefficients r.coefficients P.long P.lie P.solves R.long R.lie R.solves apart ok
  where
    at_lists : (bs : List ℤ) (es : List Ends) (cs : List ℤ) (fs : List Ends) → length bs ≡ suc (length ys) → Lied P.scale bs es → dot bs (y ∷ ys) ≡ P.right *ℤ pos s
        → length cs ≡ suc (length ys) → Lied R.scale cs fs → dot cs (y ∷ ys) ≡ R.right *ℤ pos s
        → contains_zero (lead (record { coefficients = es; right = p.right })) ≡ false
        → reduced_of (record { coefficients = es; right = p.right }) (record { coefficients = fs; right = r.right }) ≡ Ok r' → Holds ys s r'
    at_lists [] es cs fs lb ib eb lc ic ec z o = absurd (let z : ◌≡◌ {A = ℕ} 0 1 = cc in omega arith)
    at_lists (a ∷ bs) [] cs fs lb ib eb lc ic ec z o = absurd ib
    at_lists (a ∷ bs) (e ∷ es) [] fs lb ib eb lc ic ec z o = absurd (let z : ◌≡◌ {A = ℕ} 0 1 = cc in omega arith)
    at_lists (a ∷ bs) (e ∷ es) (c ∷ cs) [] lb ib eb lc ic ec z o = absurd ic
    at_lists (a ∷ bs) (e ∷ es) (c ∷ cs) (f ∷ fs) lb ib eb lc ic ec z o =
        let u = P.scale in
        let t = R.scale in
        let first = then_ok (quotient_of f e) (λ m. and_then (each_with (less_multiple m) fs es) (λ ds. and_then (less_multiple m r.right p.right) (λ b. Ok (record { coefficients = ds; right = b })))) r' o in
        let m = first.0 in
        let second = then_ok (each_with (less_multiple m) fs es) (λ ds. and_then (less_multiple m r.right p.right) (λ b. Ok (record { coefficients = ds; right = b }))) r' first.2 in
        let third = then_ok (less_multiple m r.right p.right) (λ b. Ok (record { coefficients = second.0; right = b })) r' second.2 in
        let μ = sign a *ℤ c *ℤ pos u in
        let lm = quotient_holds c a t u f e m P.positive ic.0 ib.0 first.1 in
        let same : length cs ≡ length bs = cc in
        let nonzero = size_positive a (divisor_apart a u e P.positive ib.0 z) in
        subst (Holds ys s) (ok_value third.2) record {
          scale = t * (t * unsigned_abs a * u);
          positive = mul-pos R.positive (mul-pos (mul-pos R.positive nonzero) P.positive);
          coefficients = multiples μ (t * unsigned_abs a) t u m lm cs bs;
          right = R.right *ℤ pos (t * unsigned_abs a * u) -ℤ (μ *ℤ P.right) *ℤ pos t;
          long = multiples_long μ (t * unsigned_abs a) t u m lm cs bs same ∙ (let k : length cs ≡ length ys = cc in k);
          lie = multiples_lie μ (t * unsigned_abs a) t u m lm cs bs fs es second.0 ic.1 ib.1 second.1;
          lies = multiple_holds μ (t * unsigned_abs a) t u m lm R.right P.right r.right p.right third.0 R.lies P.lies third.1;
          solves = multiples_dot μ (t * unsigned_abs a) t u m lm cs bs ys same ∙ combined c y (dot cs ys) R.right (pos s) a (dot bs ys) P.right μ (pos (t * unsigned_abs a * u)) (pos t) ec eb (cleared a c y t u);
        }

-- ---- a row is solved for its first unknown
-- a point of what is left of a right-hand side: value over scale, where value (t s) = scale u
pub record Rest (t s : ℕ) (u : ℤ) (e : Ends) : Type 0 where
  pub value : ℤ
  pub scale : ℕ
  pub positive : 0 < scale
  pub lies : Lies value scale e
  pub same : value *ℤ pos (t * s) ≡ pos scale *ℤ u

rest_more : (t s : ℕ) (u : ℤ) (e : Ends) (a y : ℤ) (f x d : Ends) → 0 < t → 0 < s → Rest t s u e → Lies a t f → Lies y s x → less_multiple f e x ≡ Ok d → Rest t s (u -ℤ a *ℤ y) d
rest_more t s u e a y f x d pt ps r la ly ok = record {
  value = r.value *ℤ pos (t * s) -ℤ (a *ℤ y) *ℤ pos r.scale;
  scale = r.scale * (t * s);
  positive = mul-pos r.positive (mul-pos pt ps);
  lies = multiple_holds a t r.scale s f la r.value y e x d r.lies ly ok;
  same =
      let k = ap (λ z. z *ℤ pos (t * s)) r.same in
      let i = solve 4 (λ v T z w. (v ⊗ T ⊖ z ⊗ w) ⊗ T ⩵ (v ⊗ T) ⊗ T ⊖ (z ⊗ w) ⊗ T) refl r.value (pos (t * s)) (a *ℤ y) (pos r.scale) in
      let j = solve 4 (λ w u T z. (w ⊗ T) ⊗ (u ⊖ z) ⩵ (w ⊗ u) ⊗ T ⊖ (z ⊗ w) ⊗ T) refl (pos r.scale) u (pos (t * s)) (a *ℤ y) in
      omega (arith, linear);
}

pub rest_all : (t s : ℕ) (u : ℤ) (e : Ends) (bs ys : List ℤ) (es xs : List Ends) (d : Ends) → 0 < t → 0 < s → length bs ≡ length ys → Rest t s u e → Lied t bs es → Lied s ys xs → less_products e es xs ≡ Ok d → Rest t s (u -ℤ dot bs ys) d
unfolding dot
rest_all t s u e [] ys [] xs d pt ps h r lb ly ok =
    let k : u ≡ u -ℤ pos 0 = omega (arith, linear) in
    subst (λ (z : ℤ). Rest t s z d) k (subst (Rest t s u) (ok_value ok) r)
rest_all t s u e [] ys (f ∷ es) xs d pt ps h r lb ly ok = absurd lb
rest_all t s u e (a ∷ bs) ys [] xs d pt ps h r lb ly ok = absurd lb
rest_all t s u e (a ∷ bs) [] (f ∷ es) xs d pt ps h r lb ly ok = absurd (let z : ◌≡◌ {A = ℕ} 0 1 = cc in omega arith)
rest_all t s u e (a ∷ bs) (y ∷ ys) (f ∷ es) [] d pt ps h r lb ly ok = absurd ly
rest_all t s u e (a ∷ bs) (y ∷ ys) (f ∷ es) (x ∷ xs) d pt ps h r lb ly ok =
    let p = then_ok (less_multiple f e x) (λ c. less_products c es xs) d ok in
    let k : (u -ℤ a *ℤ y) -ℤ dot bs ys ≡ u -ℤ (a *ℤ y +ℤ dot bs ys) = omega (arith, linear) in
    let l : length bs ≡ length ys = cc in
    subst (λ (z : ℤ). Rest t s z d) k
    (rest_all t s (u -ℤ a *ℤ y) p.0 bs ys es xs d pt ps l (rest_more t s u e a y f x p.0 pt ps r lb.0 ly.0 p.1) lb.1 ly.1 p.2)

-- the same point by other numbers
rescaled : (c y : ℤ) (t s : ℕ) (e : Ends) → 0 < t → c *ℤ pos s ≡ y *ℤ pos t → Lies c t e → Lies y s e
rescaled c y t s e h same l =
    let g = pos 16384 in
    let low = times_mono (pos s) (e.low *ℤ pos t) (g *ℤ c) (omega (arith, linear)) l.from in
    let high = times_mono (pos s) (g *ℤ c) (e.high *ℤ pos t) (omega (arith, linear)) l.to in
    let i = solve 3 (λ s e t. s ⊗ (e ⊗ t) ⩵ t ⊗ (e ⊗ s)) refl (pos s) e.low (pos t) in
    let j = solve 3 (λ s e t. s ⊗ (e ⊗ t) ⩵ t ⊗ (e ⊗ s)) refl (pos s) e.high (pos t) in
    let k = solve 3 (λ s g c. s ⊗ (g ⊗ c) ⩵ g ⊗ (c ⊗ s)) refl (pos s) g c in
    let m = ap (λ z. g *ℤ z) same in
    let n = solve 3 (λ g y t. g ⊗ (y ⊗ t) ⩵ t ⊗ (g ⊗ y)) refl g y (pos t) in
    record {
      from = cancel-≤ (pos t) (e.low *ℤ pos s) (g *ℤ y) (omega (arith, linear)) (omega (arith, linear));
      to = cancel-≤ (pos t) (g *ℤ y) (e.high *ℤ pos s) (omega (arith, linear)) (omega (arith, linear));
    }

matched : (a v y : ℤ) (w t s : ℕ) → v *ℤ pos (t * s) ≡ pos w *ℤ (a *ℤ y) → (sign a *ℤ v *ℤ pos t) *ℤ pos s ≡ y *ℤ pos (w * unsigned_abs a)
matched a v y w t s e =
    solve 4 (λ g v t s. (g ⊗ v ⊗ t) ⊗ s ⩵ g ⊗ (v ⊗ (t ⊗ s))) refl (sign a) v (pos t) (pos s)
    ∙ ap (λ u. sign a *ℤ u) e
    ∙ solve 4 (λ g w a y. g ⊗ (w ⊗ (a ⊗ y)) ⩵ y ⊗ (w ⊗ (g ⊗ a))) refl (sign a) (pos w) a y
    ∙ ap (λ u. y *ℤ (pos w *ℤ u)) (sign_size a)

-- what is left over a divisor: a y over a is y
pub solved_quotient : (a y : ℤ) (t s : ℕ) (d e z : Ends) → 0 < t → Rest t s (a *ℤ y) d → Lies a t e → contains_zero e ≡ false → quotient_of d e ≡ Ok z → Lies y s z
solved_quotient a y t s d e z pt r la apart ok =
    let nonzero = size_positive a (divisor_apart a t e pt la apart) in
    let lq = quotient_holds r.value a r.scale t d e z pt r.lies la ok in
    rescaled (sign a *ℤ r.value *ℤ pos t) y (r.scale * unsigned_abs a) s z (mul-pos r.positive nonzero) (matched a r.value y r.scale t s r.same) lq

pub rest_start : (β : ℤ) (t s : ℕ) (b : Ends) → 0 < t → Lies β t b → Rest t s (β *ℤ pos s) b
rest_start β t s b pt l = record { value = β; scale = t; positive = pt; lies = l; same = solve 3 (λ b t s. b ⊗ (t ⊗ s) ⩵ t ⊗ (b ⊗ s)) refl β (pos t) (pos s) }

solved_lies : (y : ℤ) (ys : List ℤ) (s : ℕ) (p : Row) (xs : List Ends) (z : Ends) → 0 < s → Holds (y ∷ ys) s p → contains_zero (lead p) ≡ false → Lied s ys xs → solved_of p xs ≡ Ok z → Lies y s z
unfolding solved_of dot
solved_lies y ys s p xs z ps P apart lx ok = at_lists P.coefficients p.coefficients P.long P.lie P.solves apart ok
  where
    at_lists : (bs : List ℤ) (es : List Ends) → length bs ≡ suc (length ys) → Lied P.scale bs es → dot bs (y ∷ ys) ≡ P.right *ℤ pos s
        → contains_zero (lead (record { coefficients = es; right = p.right })) ≡ false → solved_of (record { coefficients = es; right = p.right }) xs ≡ Ok z → Lies y s z
    at_lists [] es lb ib eb a o = absurd (let z : ◌≡◌ {A = ℕ} 0 1 = cc in omega arith)
    at_lists (a ∷ bs) [] lb ib eb q o = absurd ib
    at_lists (a ∷ bs) (e ∷ es) lb ib eb q o =
        let t = P.scale in
        let β = P.right in
        let first = then_ok (less_products p.right es xs) (λ d. quotient_of d e) z o in
        let l : length bs ≡ length ys = cc in
        let r = rest_all t s (β *ℤ pos s) p.right bs ys es xs first.0 P.positive ps l (rest_start β t s p.right P.positive P.lies) ib.1 lx first.1 in
        let left : β *ℤ pos s -ℤ dot bs ys ≡ a *ℤ y = omega (arith, linear) in
        solved_quotient a y t s first.0 e z P.positive (subst (λ (u : ℤ). Rest t s u first.0) left r) ib.0 q first.2

-- at scale 0 every component is 0
zero_lies : (x : Ends) → Lies (pos 0) 0 x
zero_lies x = record { from = rw *ℤ-zero (omega (arith, linear)); to = rw (*ℤ-zero x.high) (omega (arith, linear)) }

lies_zero : (y : ℤ) (x : Ends) → Lies y 0 x → y ≡ pos 0
lies_zero y x l =
    let low : pos 0 ≤ℤ (pos 16384 *ℤ y) = rw (*ℤ-zero x.low) at l.from in
    let high : (pos 16384 *ℤ y) ≤ℤ pos 0 = rw (*ℤ-zero x.high) at l.to in
    omega (arith, ints)

lied_zero : (bs ys : List ℤ) (xs : List Ends) → Lied 0 ys xs → dot bs ys ≡ pos 0
unfolding dot
lied_zero [] ys xs l = refl
lied_zero (b ∷ bs) [] xs l = refl
lied_zero (b ∷ bs) (y ∷ ys) [] l = absurd l
lied_zero (b ∷ bs) (y ∷ ys) (x ∷ xs) l =
    let zero_y = lies_zero y x l.0 in
    let rest = lied_zero bs ys xs l.1 in
    let first : b *ℤ y ≡ pos 0 = ap (λ z. b *ℤ z) zero_y ∙ *ℤ-zero b in
    omega (arith, linear)

solved_at_zero : (y : ℤ) (ys : List ℤ) (p : Row) (xs : List Ends) (z : Ends) → Holds (y ∷ ys) 0 p → contains_zero (lead p) ≡ false → Lied 0 ys xs → Lies y 0 z
unfolding dot
solved_at_zero y ys p xs z P apart lx = at_lists P.coefficients p.coefficients P.long P.lie P.solves apart
  where
    at_lists : (bs : List ℤ) (es : List Ends) → length bs ≡ suc (length ys) → Lied P.scale bs es → dot bs (y ∷ ys) ≡ P.right *ℤ pos 0
        → contains_zero (lead (record { coefficients = es; right = p.right })) ≡ false → Lies y 0 z
    at_lists [] es lb ib eb a = absurd (let z : ◌≡◌ {A = ℕ} 0 1 = cc in omega arith)
    at_lists (a ∷ bs) [] lb ib eb q = absurd ib
    at_lists (a ∷ bs) (e ∷ es) lb ib eb q =
        let none = lied_zero bs ys xs lx in
        let product : a *ℤ y ≡ pos 0 = omega (arith, linear, *ℤ-zero P.right) in
        let is_zero : y ≡ pos 0 = product_zero a y (divisor_apart a P.scale e P.positive ib.0 q) product in
        subst (λ (v : ℤ). Lies v 0 z) (sym is_zero) (zero_lies z)

newest : (y : ℤ) (ys : List ℤ) (s : ℕ) (p : Row) (xs : List Ends) (z : Ends) → Holds (y ∷ ys) s p → contains_zero (lead p) ≡ false → Lied s ys xs → solved_of p xs ≡ Ok z → Lies y s z
newest y ys zero p xs z P apart l ok = solved_at_zero y ys p xs z P apart l
newest y ys (suc k) p xs z P apart l ok = solved_lies y ys (suc k) p xs z (omega arith) P apart l ok

-- ---- the whole walk
each_holds : (y : ℤ) (ys : List ℤ) (s : ℕ) (p : Row) (rs rest : List Row) → Holds (y ∷ ys) s p → contains_zero (lead p) ≡ false → AllByRecursion (Holds (y ∷ ys) s) rs → each (reduced_of p) rs ≡ Ok rest → AllByRecursion (Holds ys s) rest × (length rest ≡ length rs)
each_holds y ys s p [] rest P apart all ok = subst (λ (o : List Row). AllByRecursion (Holds ys s) o × (length o ≡ 0)) (ok_value ok) (tt, refl)
each_holds y ys s p (r ∷ rs) rest P apart all ok =
    let first = then_ok (reduced_of p r) (λ z. and_then (each (reduced_of p) rs) (λ zs. Ok (z ∷ zs))) rest ok in
    let second = then_ok (each (reduced_of p) rs) (λ zs. Ok (first.0 ∷ zs)) rest first.2 in
    let more = each_holds y ys s p rs second.0 P apart all.1 second.1 in
    subst (λ (o : List Row). AllByRecursion (Holds ys s) o × (length o ≡ suc (length rs))) (ok_value second.2)
    ((reduced_holds y ys s p r first.0 P all.0 apart first.1, more.0), ap suc more.1)

pub eliminated_holds : (n : ℕ) (rows : List Row) (x : List ℤ) (s : ℕ) (row : List Ends) → length x ≡ n → length rows ≡ n → AllByRecursion (Holds x s) rows → eliminated n rows ≡ Ok row → Lied s x row
unfolding eliminated
eliminated_holds zero rows [] s row lx lr all ok = subst (λ (o : List Ends). Lied s [] o) (ok_value ok) tt
eliminated_holds zero rows (y ∷ ys) s row lx lr all ok = absurd (let z : ◌≡◌ {A = ℕ} 0 1 = cc in omega arith)
eliminated_holds (suc n) [] x s row lx lr all ok = absurd (let z : ◌≡◌ {A = ℕ} 0 1 = cc in omega arith)
eliminated_holds (suc n) (p ∷ rs) [] s row lx lr all ok = absurd (let z : ◌≡◌ {A = ℕ} 0 1 = cc in omega arith)
eliminated_holds (suc n) (p ∷ rs) (y ∷ ys) s row lx lr all ok =
    let guard = guard_ok (contains_zero (lead p)) DivisorContainsZero (and_then (each (reduced_of p) rs) (λ rest. and_then (eliminated n rest) (λ xs. and_then (solved_of p xs) (λ z. Ok (z ∷ xs))))) row ok in
    let first = then_ok (each (reduced_of p) rs) (λ rest. and_then (eliminated n rest) (λ xs. and_then (solved_of p xs) (λ z. Ok (z ∷ xs)))) row guard.1 in
    let second = then_ok (eliminated n first.0) (λ xs. and_then (solved_of p xs) (λ z. Ok (z ∷ xs))) row first.2 in
    let third = then_ok (solved_of p second.0) (λ z. Ok (z ∷ second.0)) row second.2 in
    let reduced = each_holds y ys s p rs first.0 all.0 guard.0 all.1 first.1 in
    let ly : length ys ≡ n = cc in
    let lrs : length rs ≡ n = cc in
    let later = eliminated_holds n first.0 ys s second.0 ly (reduced.1 ∙ lrs) reduced.0 second.1 in
    subst (λ (o : List Ends). Lied s (y ∷ ys) o) (ok_value third.2) (newest y ys s p second.0 third.0 all.0 guard.0 later third.1, later)
