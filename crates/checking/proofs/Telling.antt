-- What is told of a read. Assumes nothing.
use Rattle.std.proofs.Common.{◌≡◌, ℕ, ◌≤◌, List, length, Option, Some, None, MatchOption, IsSomeAnd, ap, subst}
use Rattle.std.specs.Option.{option_map}
use Rattle.std.specs.Result.{result_err}
use Rattle.std.proofs.lemmas.Bool.{le-leb}
use Rattle.charset.specs.Pages.{page_850}
use Rattle.charset.specs.Tables.{bytes_of}
use Rattle.charset.specs.declared.code_table.CodeTable.{CodeTable}
use Rattle.media.specs.Bytes.{Contents, contents}
use Rattle.media.specs.declared.framing.Framing.TheVariants.{Lines}
use Rattle.rows.specs.declared.notices.Notice.{Notice}
use Rattle.rows.specs.declared.archive.Tables.{Tables}
use Rattle.rows.specs.Tables.{room_in, Holds}
use Rattle.archiving.specs.Numbers.{read_notice}
use Rattle.archiving.specs.Reads.{read_of}
use Rattle.checking.specs.Checks.{report_of, Checked}

-- an input that is not too long, read as it is
pub told : (t t' : Tables) (bytes : List ℕ) (code : CodeTable) (held : Contents) (notice : Option Notice) (accounts movements : ℕ) → length bytes ≤ 65536 → bytes_of code ≡ page_850 → held ≡ contents Lines code bytes 0 → notice ≡ option_map read_notice (result_err (read_of (room_in t) held.records held.ending).answer) → accounts ≡ length (read_of (room_in t) held.records held.ending).rows.accounts → movements ≡ length (read_of (room_in t) held.records held.ending).rows.movements → Holds t t' (read_of (room_in t) held.records held.ending).rows → Checked t t' bytes (record { notice = notice; accounts = accounts; movements = movements })
told t t' bytes code held notice accounts movements short page is n a m h =
    rw (le-leb (length bytes) 65536 short) (code, page, rw (n, a, m) (ap (λ (c : Contents). report_of (read_of (room_in t) c.records c.ending)) is), subst (λ (c : Contents). Holds t t' (read_of (room_in t) c.records c.ending).rows) is h)

-- what `map` gives where the closure gives f
pub mapped : {A B : Type 0} {P : A → B → Type 0} (f : A → B) (o : Option A) (r : Option B) → ((x : A) (y : B) → P x y → y ≡ f x) → MatchOption o (r ≡ None) (λ x. IsSomeAnd r (P x)) → r ≡ option_map f o
mapped f None r gives h = h
mapped f (Some x) None gives h = absurd h
mapped f (Some x) (Some y) gives h = ap Some (gives x y h)
