use Rattle.std.proofs.Common.{rules}
use Rattle.fields.proofs.dates.Date.is_real_day.Goals as goal

pub returns-then-year-le99 : goal.returns-then-year-le99
returns-then-year-le99 c = search rules
