use Rattle.std.proofs.Common.{◌≡◌, ◌+◌, ◌*◌}
use Rattle.row.proofs.has_room.Given as goal

-- each number of a row that was counted has taken the tokens off the room once
abbrev pub invariant-loop : goal.invariant-loop
invariant-loop l = l.initial.room ≡ l.counter * l.initial.tokens + l.left
