-- What a Boolean test says.
use Rattle.std.specs.Prelude.{Bool, true, ◌≡◌}

-- the test b passes just where A holds
pub record Says (b : Bool) (A : Type 0) : Type 0 where
  pub to : b ≡ true → A
  pub of : A → b ≡ true
