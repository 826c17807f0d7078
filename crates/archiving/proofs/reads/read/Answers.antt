use Rattle.std.proofs.Common.{◌≡◌, ◌+◌, Ok, sym, refl, ap, ◌∙◌, subst, rules}
use Rattle.reading.specs.Progress.{progress}
use Rattle.reading.proofs.Progress.{new_at_start}
use Rattle.rows.specs.Tables.{Holds}
use Rattle.archiving.specs.declared.refusals.ReadRefusal.TheVariants.{Carrier}
use Rattle.archiving.proofs.Midway.{holds_is, start, more, drew}
use Rattle.archiving.proofs.Taking.{still, told_as, told_by, told_ok}
use Rattle.archiving.proofs.reads.read.Given.{Over}
use Rattle.archiving.proofs.reads.read.Goals as goal
use Rattle.archiving.proofs.reads.read.Goals.{After-map_err, In_ok-map_err}

pub loop-reading-init : goal.loop-reading-init
loop-reading-init g c =
    let t = c.clear.new.self in
    let nothing = subst (Holds t t) (holds_is _ t _ c.clear.ensures) (still t) in
    (start _ _ _ _ _ (new_at_start _ c.new-reading.ensures) nothing, refl, refl)

-- a fault is told with the number of the record that would come
told : (g : Over) (c : After-map_err g) → c.map_err.result ≡ told_as (λ fault. Carrier fault ((progress c.loop-reading.reading).taken + 1)) c.draw.result
told g c = told_by _ _ (λ fault x told. search rules) c.draw.result c.map_err.result c.map_err.ensures.cases

drawn_ok : (g : Over) (c : In_ok-map_err g) → c.draw.result ≡ Ok c.in_ok-map_err.field-0
drawn_ok g c = told_ok _ c.draw.result _ (sym (told g (goal.at.In_ok-map_err g c).After-map_err) ∙ c.in_ok-map_err.was)

pub loop-reading-preserved : goal.loop-reading-preserved
loop-reading-preserved g c =
    let inv = c.loop-reading.invariant in
    let record_there = drawn_ok g (goal.at.loop-reading-preserved g c).In_ok-map_err ∙ ap Ok c.if-branch.true in
    let left = drew _ _ _ _ _ _ record_there c.draw.ensures.drawn in
    let took = c.in_ok-take.ensures in
    (more inv.0 c.take.new.tables (progress c.take.new.reading) c.draw.new.into (g.C.Carrier.records c.draw.new.self) left took.answer took.tables took.reading took.count, c.draw.ensures.ending ∙ inv.1, c.draw.ensures.volumes ∙ inv.2)
