-- Texts, each with its first fault.
use Rattle.std.specs.Prelude.{ℕ, List, [], ◌∷◌, ◌++◌, codes}

-- line 4 has the fault UnknownName
abbrev pub fault_0022 : List ℕ
fault_0022 = codes "cxthread 1\njthread j\nbarrier b 1\ncallback nn zz notify_all nn\nbody j\narrive_and_drop b\nend\nmain\narrive_and_wait b\narrive_and_wait b\narrive_and_wait b\narrive_and_wait b\nwait b\nstart j\nend\n"

-- line 15 has the fault BadWord
abbrev pub fault_0023 : List ℕ
fault_0023 = codes "cxthread 1\njthread j\nlatch l0 5\nbody j\ntry_wait l0\ntry_wait l0\nend\nmain\narrive_and_wait l0\ntry_wait l0\ncount_down l0 4\nstart j\njoin j\njoin j\ne" ++ 13 ∷ [] ++ codes "\nnd\n"

-- line 4 has the fault BadWord
abbrev pub fault_0027 : List ℕ
fault_0027 = codes "cxthread 1\njthread j\nsemaphore q 0 65535\nbaq0 1\nstart j\nacquire q1\nrelease q0 1\nacquire q1\nend\n"

-- line 13 has the fault BadWord
abbrev pub fault_0032 : List ℕ
fault_0032 = codes "cxthread 1\njthread j0\ncondition c0\nbarrier b 2 notify_all c0\nbody j0\narrive b 2\nwait b\nnotify_one c0\narrive_and_wait b\nend\nmain\nend\narrive b 4096\nwait b\narrive_and_wait b\nstart j0\n"

-- line 3 has the fault BadWord
abbrev pub fault_0033 : List ℕ
fault_0033 = codes "cxthread 1\nthread b0\ncount_down b0 7\nshared_promise p main b0 main\nbody b0\nget p\nget_future p\nwait p\nend\nmain\nget_future p\nshare p\nset_exception p 0\nset_exception p 4294967295\nstart b0\ndrop p\njoin b0\nend\n"

-- line 3 has the fault Twice
abbrev pub fault_0035 : List ℕ
fault_0035 = codes "cxthread 1\ncondition w\njthread w\nbody w\nend\nmain\nstop_possible w\nstop_possible w\nstop_possible w\nrequest_stop w\nend\n"

-- line 2 has the fault NotAscii
abbrev pub fault_0040 : List ℕ
fault_0040 = codes "cxthread 1\nthre" ++ 8 ∷ [] ++ codes "ad b0\nasync x0 async return -9223372036854775807\nbody b0\nend\nmain\njoin main\ntry_acquire b0\ndrop x0\nstart b0\nget x0\nlaunch x0\ndrop x0\nwait x0\nget x0\njoin b0\nend\n"

-- line 29 has the fault BadOrder
abbrev pub fault_0045 : List ℕ
fault_0045 = codes "cxthread 1\nthread b0\nthread e\nstop st0 main\ncallback k0 st0 deregister k0\nbarrier b 4096\nbody b0\narrive_and_wait b\nregister k0\nderegister k0\nderegister k0\narrive b 1\nend\nbody e\nstop_requested st0\narrive_and_wait b\nwait b\narrive_and_drop b\nend\nmain\nstart b0\nstart e\narrive_and_wait b\nwait b\nanother st0\nstop_requested st0\nrequest_stop st0\njoin b0\nend\n"

-- line 1 has the fault BadVersion
abbrev pub fault_0050 : List ℕ
fault_0050 = codes "Cxthread 1\nthread d0\nsemaphore q 1 1\nthread g\nbody d0\nrelease q 2\ntry_acquire q\nacquire q\nend\nbody g\nend\nmain\ntry_acquire q\nrelease q 3\nrelease q 2\nrelease q 3\ntry_acquire q\nstart d0\nstart g\nacquire q\njoin d0\njoin g\nend\n"

-- line 2 has the fault BadWord
abbrev pub fault_0053 : List ℕ
fault_0053 = codes "cxthread 1\njthread \nasync x async return 7\nbody w\nstop_possible w\nend\nmain\nlaunch x\nstart w\nget x\nnotify_all w\nend\n"

-- line 8 has the fault NotAscii
abbrev pub fault_0056 : List ℕ
fault_0056 = codes "cxthread 1\nthread b\nshared_promise p0 main b\nsemaphore q 0 3\nsemaphore exception 0 2\nbody b\nacquire q\nrelease" ++ 31 ∷ [] ++ codes " exception 1\nacquire q\nrelease exception 1\nacquire q\nrelease exception 1\nget p0\nend\nmain\nstart b\nrelease q 1\nacquire exception\nset_exception p0 0\nrelease q 1\nacquire exception\nrelease q 1\nacquire exception\njoin b\nend\n"

-- line 2 has the fault BadWord
abbrev pub fault_0064 : List ℕ
fault_0064 = codes "cxthread 1\nx w0\ncondition c\nbarrier b0 1 notify_one c\nasync x0 both return 2\nbody w0\nend\n"

-- line 20 has the fault Twice
abbrev pub fault_0067 : List ℕ
fault_0067 = codes "cxthread 1\njthread j0\nstop thread main j0\nsemaphore q0 0 1\ncallback k0 thread release q0 2\ncallback k thread deregister k\ncondition c0\ncallback k1 thread notify_one c0\ncallback k2 thread notify_all c0\nbody j0\nrequest_stop thread\nstop_requested thread\nregister k1\nrequest_stop thread\nderegister k1\nend\nmain\nregister k0\nstart j0\nregister k0\nderegister k0\nrelease q0 1\nstop_requested j0\njoin j0\nend\n"

-- line 14 has the fault BadWord
abbrev pub fault_0069 : List ℕ
fault_0069 = codes "cxthread 1\nthread e\nthread a\nthread d0\nbarrier b0 2\nasync x0 both return -9223372036854775807\nbody e\nend\nbody a\narrive_and_wait b0\nend\nbody d0\nend\nset_exception main\nstart e\nstart d0\nstart a\nlaunch x0\nwait x0\njoin d0\njoin a\njoin e\narrive_and_wait b0\nwait thread\nwait notify_one\nend\n"

-- line 12 has the fault Twice
abbrev pub fault_0070 : List ℕ
fault_0070 = codes "cxthread 1\nthread e0\ncondition c\nbarrier b 1 notify_one c\nbody e0\narrive_and_wait b\narrive_and_wait b\narrive_and_wait b\nwait b\nnotify_one c\nend\nbody e0\nend\nmain\nstart e0\njoin e0\nend\n"

-- line 3 has the fault BadWord
abbrev pub fault_0073 : List ℕ
fault_0073 = codes "cxthread 1\njthread j\ntry_lock j\nstop st0 main\ncondition c0\nmutex m 2\nsemaphore g 0 1\nbody j\nlock m\nadd m 0 1\nnotify_one c0\nunlock m\nnotify_all c0\nlock m\nadd m 0 2\nlock m\nrelease g 1\nwait_stop c0 m st0 0 != 2\nunlock m\nnotify_one c0\nunlock m\nend\nmain\nstart j\nacquire g\nacquire g\nlock m\nunlock m\nrequest_stop st0\nend\n"

-- line 8 has the fault UnknownName
abbrev pub fault_0078 : List ℕ
fault_0078 = codes "cxthread 1\nthread b\nstop st b\ncondition c0\nmutex m0 2\nonce zz\nbody b\ncall_once o throw 42\nlock m0\nrequest_stop st\nwait_stop c0 m0 st 0 >= 2\nunlock m0\nend\nmain\ncall_once o return\nstop_possible st\ncall_once o throw 1\nlock m0\nstart b\nwait_stop c0 m0 st 0 != 0\nunlock m0\nlock m0\nadd m0 0 1\nnotify_all c0\nunlock m0\ncall_once o return\njoin b\nend\n"

-- line 10 has the fault OutOfRange
abbrev pub fault_0080 : List ℕ
fault_0080 = codes "cxthread 1\njthread j0\nshared_promise body main main\nbody j0\nend\nmain\nstart j0\nget_future body\nshare body\nset_value body 99999999999999999999\ndrop body\njoin j0\nend\n"

-- line 3 has the fault BadWord
abbrev pub fault_0081 : List ℕ
fault_0081 = codes "cxthread 1\nthread a0\nstop_requested c0\nthread a1\ncondition c0\nbarrier b0 3 notify_all c0\nthread h0\nbody a0\narrive_and_wait b0\narrive_and_wait b0\nwait b0\nend\nbody a1\narrive b0 1\nwait b0\narrive b0 1\nwait b0\nend\nbody h0\nend\nmain\nstart a0\nstart h0\narrive b0 1\njoin a0\njoin h0\nstart a1\nwait b0\narrive_and_wait b0\nwait b0\njoin a1\nend\n"

-- line 1 has the fault BadVersion
abbrev pub fault_0086 : List ℕ
fault_0086 = codes "cxthread 9223372036854775808 2 launch\nthread a0\nonce o0\nbody a0\ncall_once o0 return\ncall_once o0 return\n4294967296\nmain\nstart a0\ncall_once o0 return\ncall_once o0 return\njoin a0\nend\n"
