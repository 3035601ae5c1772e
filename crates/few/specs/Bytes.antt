-- Bytes in an array that has room for N (no words of 01: it says how many bytes go where). Assumes nothing.
use Rattle.std.specs.Prelude.{List, ◌++◌, ℕ, ◌-◌, length, take, replicate}
use Rattle.few.specs.declared.Few.{Few}

-- these bytes: the places past them are 0
abbrev pub few : (N : ℕ) → List ℕ → Few N
few N vs = record { codes = vs ++ replicate (N - length vs) 0; count = length vs }

-- the bytes that count
abbrev pub contents : {N : ℕ} → Few N → List ℕ
contents f = take f.count f.codes
