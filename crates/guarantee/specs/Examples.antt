-- The worked examples of the format, as one statement over the definitions that the contracts use. Assumes nothing.
use Rattle.std.specs.Prelude.{◌≡◌, ℕ, true, false, List, [], ◌∷◌, ◌++◌, Some, None, codes, Option}
use Prim.Native.String.{String}
use Rattle.std.specs.Option.{option_map}
use Rattle.fields.specs.Calendar.{real_day, not_before}
use Rattle.fields.specs.Decimal.{value}
use Rattle.fields.specs.Reference.{check_digit}
use Rattle.reading.specs.Numbers.{told}
use Rattle.reading.specs.Progress.{Progress, at_start, refused, after}
use Rattle.reading.specs.declared.refusals.Told.{Told}
use Rattle.guarantee.specs.Files.{CorrectFile, Begins}

-- the number that digits spell
abbrev pub spelled : String → ℕ
spelled digits = value (codes digits)

-- The records of the examples, under their columns. Each is taken below, or refused with 4, 7 or 8, so it is 80 characters.
--                  1         2         3         4         5         6         7         8
--         12345678901234567890123456789012345678901234567890123456789012345678901234567890

-- 11, in currency 978 and modality 1: with an initial balance of zero, and with the most as credit
abbrev pub zero_account : List ℕ
zero_account =
    codes "119999000100000000012603012603312000000000000009781EXAMPLE                      "

abbrev pub full_account : List ℕ
full_account =
    codes "119999000100000000012603012603312999999999999999781EXAMPLE                      "

-- 22: a credit of 1, and a debit of 1
abbrev pub credit : List ℕ
credit =
    codes "22        260302260302030002000000000000010000000000                            "

abbrev pub debit : List ℕ
debit =
    codes "22        260302260302030001000000000000010000000000                            "

-- 23, with a sequence of two digits; behind them columns 5 to 80
abbrev pub text : String → List ℕ
text sequence = codes "23" ++ (codes sequence ++ codes "TEXT                                                                        ")

-- 24: an equivalent in currency 978
abbrev pub equivalent : List ℕ
equivalent =
    codes "240197800000000000001                                                           "

-- 33, with counts, totals and balance of zero: with final key 1, and with final key 2
abbrev pub debit_end : List ℕ
debit_end =
    codes "3399990001000000000100000000000000000000000000000000000000100000000000000978    "

abbrev pub credit_end : List ℕ
credit_end =
    codes "3399990001000000000100000000000000000000000000000000000000200000000000000978    "

-- 88, after two records
abbrev pub file_end : List ℕ
file_end =
    codes "88999999999999999999000002                                                      "

-- account, account end and file end, with balances, counts and totals of zero
abbrev pub zero_file : List ℕ → List (List ℕ)
zero_file end = zero_account ∷ end ∷ file_end ∷ []

abbrev pub five_texts : List (List ℕ)
five_texts = text "01" ∷ text "02" ∷ text "03" ∷ text "04" ∷ text "05" ∷ []

-- a reading takes these records one after the other, and then tells this of the next: nothing where it takes that too
abbrev pub Answers : Progress → List (List ℕ) → List ℕ → Option Told → Type 0
Answers p [] offered answer = option_map told (refused p offered) ≡ answer
Answers p (r ∷ before) offered answer = (refused p r ≡ None) × Answers (after p r) before offered answer

pub record WorkedExamples : Type 0 where
  -- the check digit of 82546789013 is 8
  pub check_eight : check_digit (spelled "82546789013") ≡ 8
  -- the check digit of 00000000005 is 0
  pub check_zero : check_digit (spelled "00000000005") ≡ 0
  -- 000229 is a real day, and 010229 is not
  pub leap_day : (real_day (spelled "000229") ≡ true) × (real_day (spelled "010229") ≡ false)
  -- 811231 is after 991231
  pub centuries : (not_before (spelled "811231") (spelled "991231") ≡ true) × (not_before (spelled "991231") (spelled "811231") ≡ false)
  -- the empty list begins a correct file, and is none
  pub empty : Begins [] × (CorrectFile [] → ⊥)
  -- account, account end and file end of zero are a correct file, with final key 1 and with final key 2
  pub zero : CorrectFile (zero_file debit_end) × CorrectFile (zero_file credit_end)
  -- from a credit of 99,999,999,999,999 on, a credit of 1 is refused with 8 at column 29, and a debit of 1 is taken
  pub limit : Answers at_start (full_account ∷ []) credit (Some (record { number = 8; «record» = 2; column = 29 })) × Answers at_start (full_account ∷ []) debit None
  -- an equivalent in currency 978 in an account of 978 is refused with 7 at column 5
  pub own_currency : Answers at_start (zero_account ∷ credit ∷ []) equivalent (Some (record { number = 7; «record» = 3; column = 5 }))
  -- a sixth text is refused with 4
  pub sixth_text : Answers at_start (zero_account ∷ credit ∷ five_texts) (text "06") (Some (record { number = 4; «record» = 8; column = 1 }))
