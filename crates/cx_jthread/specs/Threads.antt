-- What a thread is to who joins it.
use Rattle.std.specs.Prelude.{Option, option_map}
use Rattle.cx_io.specs.Spawning.{job_of}
use Rattle.cx_jthread.specs.declared.thread.Thread.{Thread}

-- the job that the thread was started with, as long as it is joinable
abbrev pub job_to_join : {J O : Type 0} → Thread J O → Option J
job_to_join thread = option_map job_of thread.running
