-- Where no thread is started, none is to be joined.
use Rattle.std.proofs.Common.{ℕ, inl, arith}
use Rattle.cx_run.specs.Runs.{AreJoined}

pub none_joined : (started joined : ℕ) → AreJoined started joined started joined
none_joined started joined = record { ended = 0; starts = inl (omega arith); joins = inl (omega arith) }
