use Rattle.std.proofs.Common.{ℕ, ◌+◌, ◌<◌, sym, subst, w64, Fits, rules}
use Rattle.partition.specs.Marking.{marks_of}
use Rattle.partition.proofs.Opens.{open_place, fixed_room, ends_room}
use Rattle.partition.proofs.marks.Marks.fix.Goals as goal

pub power_of_two-power-requires : goal.power_of_two-power-requires
power_of_two-power-requires c =
    let h : c.args.place < 64 = (open_place (marks_of c.args.self) c.args.place (sym c.if-not-is_open.ensures)).there in
    search h

pub overflow_add-result : goal.overflow_add-result
overflow_add-result c =
    let o = open_place (marks_of c.args.self) c.args.place (sym c.if-not-is_open.ensures) in
    subst (λ (p : ℕ). Fits w64 (c.args.self.fixed + p)) (sym c.power_of_two-power.ensures) (record { fits = fixed_room (marks_of c.args.self) c.args.place o (search rules) })

pub overflow_add-result-in-High : goal.overflow_add-result-in-High
overflow_add-result-in-High c =
    let o = open_place (marks_of c.args.self) c.args.place (sym c.if-not-is_open.ensures) in
    subst (λ (p : ℕ). Fits w64 (c.args.self.fixed + p)) (sym c.power_of_two-power.ensures) (record { fits = fixed_room (marks_of c.args.self) c.args.place o (search rules) })

pub overflow_add-result-in-High-2 : goal.overflow_add-result-in-High-2
overflow_add-result-in-High-2 c =
    let o = open_place (marks_of c.args.self) c.args.place (sym c.if-not-is_open.ensures) in
    subst (λ (p : ℕ). Fits w64 (c.args.self.ends + p)) (sym c.power_of_two-power.ensures) (record { fits = ends_room (marks_of c.args.self) c.args.place o (search rules) })
