-- Which record may follow those taken. Assumes nothing.
use Rattle.std.specs.Prelude.{ℕ, ◌+◌, cond, Some, None, Option, nat_lt}
use Rattle.reading.specs.declared.kinds.Kind.{Kind}
use Rattle.reading.specs.declared.kinds.Kind.TheVariants.{Account, Movement, Text, Equivalent, AccountEnd, FileEnd}
use Rattle.reading.specs.declared.phases.Phase.{Phase}
use Rattle.reading.specs.declared.phases.Phase.TheVariants.{Start, Between, Opened, Texts, Converted, Ended}

-- outside an account: one begins, or the file ends, if it may
abbrev pub outside : Option Phase → Kind → Option Phase
outside end Account = Some Opened
outside end Movement = None
outside end Text = None
outside end Equivalent = None
outside end AccountEnd = None
outside end FileEnd = end

-- in an account: a movement, the account's end, or a text or an equivalent, if it may
abbrev pub inside : Option Phase → Option Phase → Kind → Option Phase
inside text equivalent Account = None
inside text equivalent Movement = Some (Texts 0)
inside text equivalent Text = text
inside text equivalent Equivalent = equivalent
inside text equivalent AccountEnd = Some Between
inside text equivalent FileEnd = None

-- a movement has at most five texts
abbrev pub more_texts : ℕ → Option Phase
more_texts n = cond (nat_lt n 5) (Some (Texts (n + 1))) None

abbrev pub next : Phase → Kind → Option Phase
next Start k = outside None k
next Between k = outside (Some Ended) k
next Opened k = inside None None k
next (Texts n) k = inside (more_texts n) (Some Converted) k
next Converted k = inside None None k
next Ended k = None
