use Rattle.std.proofs.Common.{◌≡◌, ◌<◌, [], length, take, sym, refl, ap, ◌∙◌, subst, arith, rules}
use Rattle.std.specs.Result.{result_err}
use Rattle.std.proofs.lemmas.List.{take_all}
use Rattle.std.proofs.lemmas.Result.{err_from_is_err_and}
use Rattle.reading.specs.Progress.{progress}
use Rattle.reading.specs.Taken.{refusal_of, closing}
use Rattle.reading.proofs.Progress.{new_at_start}
use Rattle.table.specs.Rows.{held}
use Rattle.table.proofs.Filling.{standing}
use Rattle.guarantee.specs.Runs.{Lawful}
use Rattle.guarantee.proofs.Running.{Midway, started, made_more, offered, closed, ended, entered_more}
use Rattle.guarantee.proofs.runs.run.Goals as goal
use Rattle.guarantee.proofs.runs.run.Goals.{in-Offer, in-Close}

pub loop-call-init : goal.loop-call-init
loop-call-init c =
    let t = c.clear.new.self in
    let none = c.clear.ensures.none in
    (subst (λ n. Midway [] (take n t.rows.now) (progress c.new-reading.result)) (sym none) (started c.new-reading.result (new_at_start _ c.new-reading.ensures)), standing t.rows.now t.filled t.fits, none, refl)

pub loop-call-preserved : goal.loop-call-preserved
loop-call-preserved c =
    let i = c.loop-call.call-index in
    let more = c.loop-call-test.true in
    let s = c.loop-call.reading in
    let t = c.loop-call.answers in
    let inv = c.loop-call.invariant in
    let x = c.match-call.answer in
    let p = c.in_ok-push.ensures.pushed in
    let e = entered_more _ t.rows.now t.filled x _ _ t.fits inv.1 p in
    elim c.match-call.branch [
      | in-Offer w ↦
          let o = w.in-Offer.offered in
          let is : x ≡ refusal_of s o.now = search rules in
          (rw (e.0, made_more c.args.calls.now i _ _ more w.in-Offer.is, w.reading-is) (offered s o inv.0 x is w.offer.new.self w.offer.result w.offer.ensures.refusal w.offer.ensures.after), e.1, omega (arith, p.2, inv.2), c.in_ok-push.ensures.lent ∙ inv.3)
      | in-Close w ↦
          let is : x ≡ result_err (closing s.phase s.taken) = search rules in
          (rw (e.0, made_more c.args.calls.now i _ _ more w.in-Close.is, w.reading-is) (closed inv.0 x is), e.1, omega (arith, p.2, inv.2), c.in_ok-push.ensures.lent ∙ inv.3)
    ]

pub returns-clause-ran : goal.returns-clause-ran
returns-clause-ran c =
    let t = c.loop-call.answers in
    let inv = c.loop-call.invariant in
    let all = take_all c.loop-call.call-index c.args.calls.now c.loop-call-test.false in
    let room : length t.rows.now ≡ length c.args.answers.now.rows.now = inv.1.size ∙ ap length c.clear.ensures.rows in
    (omega (arith, t.fits, inv.2, c.loop-call-test.false, room), subst (λ l. Lawful [] l (held t.rows.now t.filled)) all (ended inv.0))

pub returns-in_err-push-clause-ran : goal.returns-in_err-push-clause-ran
returns-in_err-push-clause-ran c =
    let inv = c.loop-call.invariant in
    let t = c.loop-call.answers in
    let r = err_from_is_err_and c.from_residual.result c.from_residual.ensures.1 in
    let p = c.in_err-push.ensures.pushed in
    let room : length c.args.answers.now.rows.now ≡ c.loop-call.call-index = omega (arith, inv.1.size, ap length c.clear.ensures.rows, p.0, inv.2) in
    let few : length c.args.answers.now.rows.now < length c.args.calls.now = omega (arith, room, c.loop-call-test.true) in
    rw (r.1, p.1, p.2) (few, subst (λ n. Lawful [] (take n c.args.calls.now) (held t.rows.now t.filled)) (sym room) (ended inv.0))
