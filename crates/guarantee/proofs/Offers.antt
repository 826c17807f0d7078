-- What comes of reading the records of a holding, one by one. Assumes nothing.
use Rattle.std.proofs.Common.{◌≡◌, ℕ, ◌+◌, List, [], ◌∷◌, ◌++◌, length, Some, None, Err, Option, sym, refl, ap, ◌∙◌, subst, append_assoc, append-nil, arith}
use Rattle.std.specs.Option.{option_map}
use Rattle.media.specs.Endings.{Ending}
use Rattle.reading.specs.Offers.{cause_of}
use Rattle.reading.specs.Progress.{Progress, refused, after}
use Rattle.reading.specs.declared.refusals.Cause.{Cause}
use Rattle.reading.specs.declared.refusals.Refusal.{Refusal}
use Rattle.rows.specs.Kept.{Rows}
use Rattle.rows.specs.Tables.{Room}
use Rattle.archiving.specs.Reads.{entered, crowded, unless_taken, stopping, unless_stopped, outcome}
use Rattle.archiving.specs.declared.refusals.ReadRefusal.TheVariants.{Reading}
use Rattle.guarantee.specs.Files.{CorrectFile, Begins}
use Rattle.guarantee.proofs.KeptChecks.{Accepted}
use Rattle.guarantee.proofs.KeptRoom.{RoomFor, not_crowded, room_left, not_stopped}
use Rattle.guarantee.proofs.KeptRows.{after_all, entered_all}
use Rattle.guarantee.proofs.Laws.{Standing, standing_after, taken_begins}

-- what begins a file, its first records begin
pub first_begin : (l m : List (List ℕ)) → Begins (l ++ m) → Begins l
first_begin l m b = record { rest = m ++ b.rest; correct = subst CorrectFile (append_assoc l m b.rest) b.correct }

-- one record behind others, before the rest
behind_one : (l : List (List ℕ)) (o : List ℕ) (rs : List (List ℕ)) → (l ++ (o ∷ [])) ++ rs ≡ l ++ (o ∷ rs)
behind_one l o rs = append_assoc l (o ∷ []) rs

-- a reading that takes records stands for them behind those before
pub standing_all : (p : Progress) (l rs : List (List ℕ)) → Standing p l → Accepted p rs → Standing (after_all p rs) (l ++ rs)
standing_all p l [] s taken = subst (Standing p) (sym (append-nil l)) s
standing_all p l (o ∷ rs) s taken =
    subst (Standing (after_all (after p o) rs)) (behind_one l o rs) (standing_all (after p o) (l ++ (o ∷ [])) rs (standing_after s o taken.0) taken.1)

-- what begins a file is taken
pub accepted_all : (p : Progress) (l rs : List (List ℕ)) → Standing p l → Begins (l ++ rs) → Accepted p rs
accepted_all p l [] s b = tt
accepted_all p l (o ∷ rs) s b =
    let here = subst Begins (sym (behind_one l o rs)) b in
    let takes = (taken_begins s o).1 (first_begin (l ++ (o ∷ [])) rs here) in
    (takes, accepted_all (after p o) (l ++ (o ∷ [])) rs (standing_after s o takes) here)

-- the first record that the reading refuses
pub record FirstRefused (p : Progress) (rs : List (List ℕ)) : Type 0 where
  pub before : List (List ℕ)
  pub offered : List ℕ
  pub behind : List (List ℕ)
  pub split : rs ≡ before ++ (offered ∷ behind)
  pub taken : Accepted p before
  pub refusal : Refusal
  pub stops : refused (after_all p before) offered ≡ Some refusal

-- all records are taken, or one is the first that is not
pub data Offered (p : Progress) (rs : List (List ℕ)) : Type 0 where
  all_taken : Accepted p rs → Offered p rs
  one_refused : FirstRefused p rs → Offered p rs

one_more : (p : Progress) (o : List ℕ) (rs : List (List ℕ)) → refused p o ≡ None → Offered (after p o) rs → Offered p (o ∷ rs)
one_more p o rs takes (all_taken h) = all_taken (takes, h)
one_more p o rs takes (one_refused f) = one_refused (record {
  before = o ∷ f.before;
  offered = f.offered;
  behind = f.behind;
  split = ap (λ l. o ∷ l) f.split;
  taken = (takes, f.taken);
  refusal = f.refusal;
  stops = f.stops;
})

pub offered : (p : Progress) (rs : List (List ℕ)) → Offered p rs
offered p [] = all_taken tt
offered p (o ∷ rs) = go (refused p o) refl (offered (after p o) rs)
  where
    go : (x : Option Refusal) → refused p o ≡ x → Offered (after p o) rs → Offered p (o ∷ rs)
    go None e later = one_more p o rs e later
    go (Some refusal) e later = one_refused (record { before = []; offered = o; behind = rs; split = refl; taken = tt; refusal = refusal; stops = e })

-- a refusal tells the number of the record
pub refused_number : (p : Progress) (o : List ℕ) (refusal : Refusal) → refused p o ≡ Some refusal → refusal.«record» ≡ p.taken + 1
unfolding refused
refused_number p o refusal h = go (cause_of p.phase p.taken p.account o) h
  where
    go : (x : Option Cause) → option_map (λ cause. record { cause = cause; «record» = p.taken + 1 }) x ≡ Some refusal → refusal.«record» ≡ p.taken + 1
    go None k = absurd (let z : ◌≡◌ {A = ℕ} 0 1 = cc in omega arith)
    go (Some cause) k = let same : record { cause = cause; «record» = p.taken + 1 } ≡ refusal = cc in sym (ap (λ (r : Refusal). r.«record») same)

-- a read stops at the record that is refused, whatever room there is
refused_stops : (room : Room) (p : Progress) (t : Rows) (o : List ℕ) (refusal : Refusal) → refused p o ≡ Some refusal → stopping room p t o ≡ Some (Reading refusal)
unfolding stopping
refused_stops room p t o refusal h = ap (λ x. unless_taken (p.taken + 1) x (crowded room t o)) h

pub stopped_at : (room : Room) (p : Progress) (t : Rows) (before : List (List ℕ)) (o : List ℕ) (behind : List (List ℕ)) (e : Ending) (refusal : Refusal) → Accepted p before → RoomFor room t (length before) → refused (after_all p before) o ≡ Some refusal → outcome room p t (before ++ (o ∷ behind)) e ≡ record { answer = Err (Reading refusal); rows = entered_all p t before; left = behind }
stopped_at room p t [] o behind e refusal taken h stops =
    ap (λ x. unless_stopped x t behind (outcome room (after p o) (entered p o t) behind e)) (refused_stops room p t o refusal stops)
stopped_at room p t (b ∷ before) o behind e refusal taken h stops =
    let one : RoomFor room t 1 = record { accounts = omega (arith, h.accounts); movements = omega (arith, h.movements); texts = omega (arith, h.texts) } in
    ap (λ x. unless_stopped x t (before ++ (o ∷ behind)) (outcome room (after p b) (entered p b t) (before ++ (o ∷ behind)) e)) (not_stopped room p t b taken.0 (not_crowded room t b one))
    ∙ stopped_at room (after p b) (entered p b t) before o behind e refusal taken.1 (room_left room p b t (length before) h) stops
