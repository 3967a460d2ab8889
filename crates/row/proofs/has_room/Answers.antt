use Rattle.std.proofs.Common.{ℕ, ◌+◌, ◌*◌, ◌<◌, ◌≡◌, false, sym, suc-mul}
use native.Mathlib.Omega.{arith}
use Rattle.std.proofs.lemmas.Bool.{lt-leb}
use Rattle.std.proofs.Math.Nat.{mul-le-mul_right}
use Rattle.row.specs.Row.{width, room_for}
use Rattle.row.proofs.has_room.Goals as goal

-- the tokens were taken off the room fewer times than a row has numbers, and what is left is less: there is no room
no-room_for : (n tokens room left : ℕ) → n < width → room ≡ n * tokens + left → left < tokens → false ≡ room_for tokens room
no-room_for n tokens room left more e less = sym (lt-leb (width * tokens) room (omega (arith, e, suc-mul n tokens, mul-le-mul_right tokens more)))

pub returns-then-left-tokens : goal.returns-then-left-tokens
returns-then-left-tokens c = no-room_for c.loop.counter c.args.tokens c.args.room c.loop.left (omega arith) c.loop.invariant (omega arith)
