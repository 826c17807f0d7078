-- What `check` tells of an input, and what it leaves in the tables. Assumes nothing.
use Rattle.std.specs.Prelude.{◌≡◌, ℕ, Bool, true, false, List, length, Some, nat_le}
use Rattle.std.specs.Option.{option_map}
use Rattle.std.specs.Result.{result_err}
use Rattle.charset.specs.Pages.{page_850}
use Rattle.charset.specs.Tables.{bytes_of}
use Rattle.charset.specs.declared.code_table.CodeTable.{CodeTable}
use Rattle.media.specs.Bytes.{contents}
use Rattle.media.specs.declared.framing.Framing.TheVariants.{Lines}
use Rattle.rows.specs.declared.notices.Layer.TheVariants as layer
use Rattle.rows.specs.declared.archive.Tables.{Tables}
use Rattle.rows.specs.Tables.{Room, room_in, Holds}
use Rattle.archiving.specs.Numbers.{read_notice}
use Rattle.archiving.specs.Reads.{Outcome, read_of}
use Rattle.checking.specs.declared.lines.Report.{Report}

-- an input of more than 65,536 bytes
abbrev pub too_long : Report
too_long = record { notice = Some (record { layer = layer.Tables; number = 35; «record» = 0; place = 0; volume = 0 }); accounts = 0; movements = 0 }

-- what came of a read: what a refusal tells, and the rows that are filled
abbrev pub report_of : Outcome → Report
report_of o = record { notice = option_map read_notice (result_err o.answer); accounts = length o.rows.accounts; movements = length o.rows.movements }

-- a read of lines in a code table
abbrev pub line_read : Room → CodeTable → List ℕ → Outcome
line_read room t bytes = read_of room (contents Lines t bytes 0).records (contents Lines t bytes 0).ending

-- the report of an input, and the tables after it: by the code table of page 850 they hold what the read leaves; an input
-- that is too long leaves them as they were
abbrev pub Reported : Tables → Tables → List ℕ → Report → Bool → Type 0
Reported t t' bytes r true =
    (code : CodeTable) × (bytes_of code ≡ page_850) × (r ≡ report_of (line_read (room_in t) code bytes)) × Holds t t' (line_read (room_in t) code bytes).rows
Reported t t' bytes r false = (r ≡ too_long) × (t' ≡ t)

abbrev pub Checked : Tables → Tables → List ℕ → Report → Type 0
Checked t t' bytes r = Reported t t' bytes r (nat_le (length bytes) 65536)
