-- Slave IDs and channel places. 000, Daisy Chain: "The order of the data channels for process data communication is inverted to
-- the order of the slave IDs for control communication."
use Rattle.std.specs.Prelude.{ℕ, ◌-◌}

-- In a chain of n slaves ID i has channel n - i, and channel j has ID n - j: IDs from 0, channels from 1 (000, Figure 19).
abbrev pub reversed : ℕ → ℕ → ℕ
reversed n i = n - i
