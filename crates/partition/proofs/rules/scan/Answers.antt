use Rattle.std.proofs.Common.{◌≡◌, ℕ, map, Option, sym, ap, ◌∙◌, subst, add-one, to_z-of_z, w64, to_z, of_z, arith, rules}
use Rattle.std.specs.Option.{option_map}
use Rattle.systems.proofs.Contents.{entry_held}
use Rattle.systems.proofs.Tabled.{entries_long}
use Rattle.systems.specs.Entries.{is_wide}
use Rattle.partition.specs.declared.rules.Best.{Best}
use Rattle.partition.specs.Scanning.{Keeps}
use Rattle.grains.specs.Arithmetic.{ends_of}
use Rattle.systems.specs.Tables.{table_of, places_of}
use Rattle.partition.specs.Choosing.{wide_at, better, best_below}
use Rattle.partition.proofs.Scans.{keeps_wide, keeps_thin, kept_place}
use Rattle.partition.proofs.rules.scan.Goals as goal
use Rattle.partition.proofs.rules.scan.Goals.{then-is_wide, else-is_wide}

pub loop-place-preserved : goal.loop-place-preserved
loop-place-preserved g c =
    let t = table_of c.args.system.now in
    let w = g.W.Weigh.weight c.args.weigher.now t (map ends_of c.args.row.now) in
    let m = c.loop-place.place in
    let o = best_below (wide_at t) w m in
    let seen : c.is_wide.result ≡ wide_at t m =
    c.is_wide.ensures ∙ ap is_wide (entry_held t c.entries-entry-items.result.now m c.entry-item.result c.entries-entry-items.ensures c.loop-place-test.true c.entry-item.is) in
    subst (λ (n : ℕ). Keeps w c.if-is_wide.best (best_below (wide_at t) w n)) (sym (add-one m)) (
    elim c.if-is_wide.branch [
      | then-is_wide v ↦ subst (λ (b : Option Best). Keeps w b (better (wide_at t) w o m)) (sym (v.best-is ∙ v.heavier-best.ensures)) (keeps_wide (wide_at t) w c.loop-place.best o m (to_z w64 (of_z w64 v.weigh.result)) (sym seen ∙ v.if-is_wide.true) (to_z-of_z {w = w64} (record { sfits = v.weigh.type_inv }) ∙ v.weigh.ensures) c.loop-place.invariant)
      | else-is_wide v ↦ subst (λ (b : Option Best). Keeps w b (better (wide_at t) w o m)) (sym v.best-is) (keeps_thin (wide_at t) w c.loop-place.best o m (sym seen ∙ v.if-is_wide.false) c.loop-place.invariant)
    ])

pub returns : goal.returns
returns g c =
    let t = table_of c.args.system.now in
    let s = c.args.system.now in
    let w = g.W.Weigh.weight c.args.weigher.now t (map ends_of c.args.row.now) in
    let l = c.loop-place in
    let mapped : c.map.result ≡ option_map (λ b. b.place) l.best = search rules in
    let end : l.place ≡ places_of t.size = omega (arith, entries_long s c.entries-entry-items.result.now c.entries-entry-items.ensures) in
    mapped ∙ kept_place (wide_at t) w l.best (best_below (wide_at t) w l.place) l.invariant ∙ ap (best_below (wide_at t) w) end
