use Rattle.std.proofs.Common.{◌≡◌, ◌≤◌, ◌++◌, map, length, take, drop, Err, sym, ap, ◌∙◌, rules}
use Rattle.std.proofs.lemmas.List.{length-take-le, take-map, take_at, drop_at}
use Rattle.std.proofs.lemmas.Result.{err_from_is_err_and}
use Rattle.grains.specs.Arithmetic.{ends_of}
use Rattle.systems.specs.Tables.{table_of}
use Rattle.systems.proofs.Tabled.{table_proper}
use Rattle.enclosures.specs.Sweeping.{swept_from, sweep_of}
use Rattle.enclosures.specs.Sweeps.{encloses_swept, encloses_refused}
use Rattle.enclosures.proofs.sweep.SweepEnclosure.enclose.Goals as goal

pub narrow_all-requires : goal.narrow_all-requires
narrow_all-requires g c =
    let few : c.size.result ≤ length c.enclose.new.row = search rules in
    length-take-le c.size.result c.enclose.new.row few ∙ c.size.ensures.value

pub returns : goal.returns
unfolding sweep_of
returns g c =
    let t = table_of c.args.system.now in
    let v = g.M.Enclosure.meaning c.args.self.now.below in
    let n = c.size.result in
    let mid = c.enclose.new.row in
    let swept = c.narrow_all.new.row in
    let size : n ≡ t.size = c.size.ensures.value in
    let few : n ≤ length mid = search rules in
    let long : length swept ≡ n = c.narrow_all.auto.row ∙ length-take-le n mid few in
    let is = swept ++ drop n mid in
    let front = ap (λ m. take m (map ends_of is)) (sym size) ∙ take-map ends_of n is ∙ ap (map ends_of) (take_at swept (drop n mid) n long) ∙ c.narrow_all.ensures
    ∙ ap (swept_from t.size 0 t) (sym (take-map ends_of n mid) ∙ ap (λ m. take m (map ends_of mid)) size) in
    let rest = ap (λ m. drop m is) (sym size) ∙ drop_at swept (drop n mid) n long ∙ ap (λ m. drop m mid) size in
    encloses_swept (v t) t c.args.row.now mid is
    (λ row e. (g.met.M.Enclosure.shaped c.args.self.now.below t row (table_proper c.args.system.now) e).complete) c.in_ok-enclose.ensures
    front rest

pub returns-in_err-enclose : goal.returns-in_err-enclose
unfolding sweep_of
returns-in_err-enclose g c =
    let t = table_of c.args.system.now in
    let v = g.M.Enclosure.meaning c.args.self.now.below in
    let q = err_from_is_err_and c.from_residual.result c.from_residual.ensures.1 in
    encloses_refused (v t) t c.from_residual.result c.in_err-enclose.field-0.0 c.args.row.now c.enclose.new.row c.in_err-enclose.ensures (q.1 ∙ ap Err q.2)
