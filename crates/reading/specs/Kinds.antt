-- The codes of the six records, and their largest numbers. Assumes nothing.
use Rattle.std.specs.Prelude.{ℕ, cond, ◌&&◌, Some, None, Option, ◌==◌}
use Rattle.reading.specs.declared.kinds.Kind.{Kind}
use Rattle.reading.specs.declared.kinds.Kind.TheVariants.{Account, Movement, Text, Equivalent, AccountEnd, FileEnd}

-- 11, 22, 23, 24, 33 and 88, in characters
abbrev pub kind_of : ℕ → ℕ → Option Kind
kind_of a b =
    cond (a == 49 && b == 49) (Some Account)
    (cond (a == 50 && b == 50) (Some Movement)
    (cond (a == 50 && b == 51) (Some Text)
    (cond (a == 50 && b == 52) (Some Equivalent)
    (cond (a == 51 && b == 51) (Some AccountEnd)
    (cond (a == 56 && b == 56) (Some FileEnd) None)))))

-- room is kept for an account end and a file end
abbrev pub last_number : Kind → ℕ
last_number Account = 999998
last_number Movement = 999998
last_number Text = 999998
last_number Equivalent = 999998
last_number AccountEnd = 999999
last_number FileEnd = 1000000
