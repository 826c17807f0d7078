-- The worked examples: those of fields and offers by computing, those of files by what a reading takes and closes.
-- Assumes nothing.
use Rattle.std.proofs.Common.{◌≡◌, ℕ, List, Ok, refl, arith}
use Rattle.charset.specs.Characters.{is_character}
use Rattle.records.specs.Checks.{judged, tested, digits, spaces, date, currency, common_concept, key, modality, is_date, is_currency, is_common_concept, is_key, is_modality}
use Rattle.reading.specs.Progress.{at_start, refused, after}
use Rattle.reading.specs.Taken.{closing}
use Rattle.guarantee.specs.Files.{CorrectFile}
use Rattle.guarantee.specs.Examples.{WorkedExamples}
use Rattle.guarantee.proofs.KeptChecks.{Accepted}
use Rattle.guarantee.proofs.KeptRows.{after_all}
use Rattle.guarantee.proofs.Laws.{standing_start, begins, close_correct}
use Rattle.guarantee.proofs.Wholes.{standing}

-- a reading just made is not closed
not_closed : closing at_start.phase at_start.taken ≡ Ok tt → ⊥
unfolding at_start
not_closed h = let z : ◌≡◌ {A = ℕ} 0 1 = cc in omega arith

-- records that a reading takes, and then closes
closed_file : (records : List (List ℕ)) → Accepted at_start records → closing (after_all at_start records).phase (after_all at_start records).taken ≡ Ok tt → CorrectFile records
closed_file records taken closes = (close_correct (standing records taken)).0 closes

pub worked : WorkedExamples
unfolding at_start refused after is_character judged tested digits spaces date currency common_concept key modality is_date is_currency is_common_concept is_key is_modality
worked = record {
  check_eight = refl;
  check_zero = refl;
  leap_day = (refl, refl);
  centuries = (refl, refl);
  empty = (begins standing_start, λ c. not_closed ((close_correct standing_start).1 c));
  zero = (closed_file _ (refl, (refl, (refl, tt))) refl, closed_file _ (refl, (refl, (refl, tt))) refl);
  limit = ((refl, refl), (refl, refl));
  own_currency = (refl, (refl, refl));
  sixth_text = (refl, (refl, (refl, (refl, (refl, (refl, (refl, refl)))))));
}
