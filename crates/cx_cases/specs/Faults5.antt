-- Texts, each with its first fault.
use Rattle.std.specs.Prelude.{ℕ, List, [], ◌∷◌, ◌++◌, codes}

-- line 2 has the fault BadWord
abbrev pub fault_0087 : List ℕ
fault_0087 = codes "cxthread 1\nthrow b\nasync x async return 9\nthread h\nbody b\nend\nbody h\n\nmain\nstart b\nstart h\nlaunch x\njoin h\njoin b\nend\n"

-- line 5 has the fault Twice
abbrev pub fault_0088 : List ℕ
fault_0088 = codes "cxthread 1\njthread j\nthread b\nlatch f 0\ntask f main main return 16\nbody j\nend\nbody b\nend\nmain\nstart b\nstart j\nget_future f\nget_future f\nwait f\nget_future f\ninvoke f\njoin j\njoin b\nend\n"

-- line 9 has the fault BadWord
abbrev pub fault_0090 : List ℕ
fault_0090 = codes "cxthread 1\njthread j\ncondition c0\nmutex m0 3\nbody j\nlock m0\nwait c0 m0\nunlock m0\nnotify_one\nend\nmain\nstart j\nnotify_all c0\nnotify_one c0\nend\n"

-- line 15 has the fault BadWord
abbrev pub fault_0095 : List ℕ
fault_0095 = codes "cxthread 1\njthread w\nshared_promise p0 main w main\nbody w\nget p0\nget_future p0\nget_future p0\nget_future p0\nend\nmain\nget_future p0\nshare p0\nrequest_stop w\nset_value p0 -9223372036854775808\ntry_lock_all p0 0\nstart w\njoin w\nend\n"

-- line 4 has the fault BadWord
abbrev pub fault_0097 : List ℕ
fault_0097 = codes "cxthread 1\nthread e0\nthread a\npromise ok a main\nbody e0\nend\nbody a\nset_value p -2\nend\nmain\nget_future p\nstart e0\nstart a\nget_future p\nget p\nget p\njoin e0\njoin a\nend\n"

-- line 6 has the fault BadWord
abbrev pub fault_0099 : List ℕ
fault_0099 = codes "cxthread 1\nthread a0\nsemaphore q0 5 5\nstop st0\ncallback k st0 release q0 3\nasync x0 deferred return "

-- line 13 has the fault NotAscii
abbrev pub fault_0102 : List ℕ
fault_0102 = codes "cxthread 1\njthread throw\nlatch l 2\nbody throw\nrequest_stop throw\narrive_and_wait l\ntry_wait l\nwait l\nend\nmain\nstart throw\njoin throw\ncount_down" ++ 1 ∷ [] ++ codes " l 1\ncount_down l 0\ntry_wait l\njoin throw\nend\n"

-- line 10 has the fault OutOfRange
abbrev pub fault_0103 : List ℕ
fault_0103 = codes "cxthread 1\nthread b\nstop st b\ncondition c\nmutex m0 3\nbody b\nstop_requested st\nrequest_stop st\nlock m0\nwait_stop c m0 st 9223372036854775808 > 0\nunlock m0\nrequest_stop st\nend\nmain\nlock m0\nwait_stop c m0 st 1 > 1\nunlock m0\nend\n"

-- line 3 has the fault UnknownName
abbrev pub fault_0108 : List ℕ
fault_0108 = codes "cxthread 1\njthread w0\ntask nn3 main nn3 return 1\ncondition c\nshared s\nbody w0\nrequest_stop w0\nnotify_all c\nnotify_one c\nnotify_one c\nend\nmain\nstart w0\nunlock_shared s\nlock s\nwait c s\nunlock s\nnotify_one c\njoin w0\nend\n"

-- line 1 has the fault BadVersion
abbrev pub fault_0110 : List ℕ
fault_0110 = codes "thread b\nlatch l0 1\nbody b\nwait l0\narrive_and_wait l0\nend\nmain\ntry_wait l0\ntry_wait l0\nstart b\nwait l0\njoin b\ncxthread 1\nend\n"

-- line 2 has the fault BadWord
abbrev pub fault_0111 : List ℕ
fault_0111 = codes "cxthread 1\nrequest_stop st0\nthread b\nthread a\njoin b\nstop st0 b main\ncondition c\nmutex m 1\nsemaphore g0 0 1\nbody b\nwait l\ncount_down l 0\nacquire g0\nlock m\nunlock m\nrequest_stop st0\nend\nbody a\nstop_requested st0\nlock m\nrelease g0 1\nwait_stop c m st0 0 != 2\nunlock m\nwait l\nend\nmain\nstart b\nstart a\ncount_down l 1\ntry_wait l\narrive_and_wait l\nunlock m\njoin a\nlatch l 2\nend\n"

-- line 9 has the fault BadWord
abbrev pub fault_0113 : List ℕ
fault_0113 = codes "cxthread 1\nthread a\ncondition c\nmutex m0 0\nsemaphore g 0 1\nbody a\nnotify_one c\nrelease g 1\nwai\nlock m0\nunlock m0\nnotify_one c\njoin a\nlock m0\nend\n"

-- line 9 has the fault BadWord
abbrev pub fault_0114 : List ℕ
fault_0114 = codes "cxthread 1\nthread b0\nstop st main b0\ncondition c0\nmutex m 3\nbarrier b 2\nbody b0\nanother st\n st\ndrop st\nlock m\nwait c0 m\nunlock m\narrive b 1\nwait b\nend\nmain\nstart b0\nnotify_one c0\narrive_and_wait b\nrequest_stop st\njoin b0\nend\n"

-- line 11 has the fault NotAscii
abbrev pub fault_0116 : List ℕ
fault_0116 = codes "cxthread 1\nthread a0\nthread b0\ncondition c0\nmutex m 2\nsemaphore g0 0 2\nthread i0\nbody a0\nacquire g0\nlock m\nrel" ++ 14 ∷ [] ++ codes "ease g0 1\nwait c0 m\nunlock m\nend\nbody b0\nlock m\nrelease g0 1\nwait c0 m\nunlock m\nend\nbody i0\ntry_acquire g0\nend\nmain\nacquire g0\nacquire g0\nlock m\nunlock m\nnotify_one c0\nnotify_all c0\nnotify_all c0\nstart b0\nstart i0\nnotify_one c0\njoin b0\njoin i0\nend\n"

-- line 4 has the fault Twice
abbrev pub fault_0118 : List ℕ
fault_0118 = codes "cxthread 1\njthread j0\ncondition c\nmutex c 1\nmutex m 8\nmutex m0 3\nbody j0\nlock m0\nwait_s"

-- line 3 has the fault NoEnd
abbrev pub fault_0120 : List ℕ
fault_0120 = codes "  " ++ 9 ∷ [] ++ 9 ∷ [] ++ codes "\n########################################################################################################################\n"

-- line 1 has the fault BadVersion
abbrev pub fault_0121 : List ℕ
fault_0121 = codes "1\nthread e\ntask f0 main e return 1\nbody e\nget_future f0\nwait f0\nwait f0\nget f0\nend\nmain\nstart e\ninvoke f0\ninvoke f0\njoin e\nend\n"

-- line 6 has the fault BadWord
abbrev pub fault_0122 : List ℕ
fault_0122 = codes "cxthread 1\njthread w\nbody w\nstop_requested w\nend\nstart w\nmain\nstop_requested w\nend\n"

-- line 1 has the fault BadVersion
abbrev pub fault_0124 : List ℕ
fault_0124 = []

-- line 9 has the fault BadWord
abbrev pub fault_0125 : List ℕ
fault_0125 = codes "cxthread 1\njthread j\nstop st0\ncondition c\nmutex m 2\nbody j\nend\nmain\nset_value st0\nstop_possible st0\nstart j\nlock m\nwait_stop c m st0 1 != 1\nunlock m\nend\n"
